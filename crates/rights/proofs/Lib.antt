-- The lemmas of this crate.
pub mod Calls
pub mod Counts
pub mod Tables
pub mod Reaching
pub mod Closing
pub mod Aboves
pub mod Ancestral
pub mod Lending
pub mod Entitling
