-- The lemmas of this crate.
pub mod Products
pub mod Rings
