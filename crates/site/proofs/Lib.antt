-- The lemmas of this crate.
pub mod Blanks
pub mod Grounds
pub mod Sealings
