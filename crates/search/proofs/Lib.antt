-- The lemmas of this crate.
pub mod Finding
pub mod Gathering
