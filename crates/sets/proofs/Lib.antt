-- The lemmas of this crate.
pub mod Bits
pub mod Words
pub mod Bounds
pub mod Filled
pub mod Entries
