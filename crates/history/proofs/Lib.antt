-- The lemmas of this crate.
pub mod Steps
pub mod Reasons
pub mod Following
pub mod Running
pub mod Striking
pub mod Activity
pub mod Asking
pub mod Lowest
pub mod Exactly
pub mod Above
