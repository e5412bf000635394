-- The lemmas of this crate.
pub mod Standings
pub mod Sessions
