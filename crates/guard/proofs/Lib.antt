-- The lemmas of this crate.
pub mod Fresh
pub mod Moving
pub mod Performed
pub mod Running
pub mod Sealed
