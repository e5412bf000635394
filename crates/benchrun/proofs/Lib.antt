-- The lemmas of this crate.
pub mod Accepted
pub mod Putting
pub mod Running
