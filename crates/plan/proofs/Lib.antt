-- The lemmas of this crate.
pub mod Makes
pub mod Rows
