-- The lemmas of this crate.
pub mod Lying
pub mod Made
pub mod Pass
pub mod Points
pub mod Ranges
pub mod Ties
pub mod Types
