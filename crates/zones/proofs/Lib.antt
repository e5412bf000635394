-- The lemmas of this crate.
pub mod Exactly
pub mod Asked
