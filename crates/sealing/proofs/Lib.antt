-- The lemmas of this crate.
pub mod Reading
pub mod Fitting
pub mod Lineages
pub mod Enabling
