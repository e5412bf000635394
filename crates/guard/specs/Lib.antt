-- The definitions that the contracts cite.
pub mod Kept
pub mod Stands
pub mod Runs
