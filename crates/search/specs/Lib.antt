-- The definitions that the contracts cite.
pub mod Gathered
pub mod Tests
