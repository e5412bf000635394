-- The definitions that the contracts cite.
pub mod Bounds
pub mod Member
pub mod Rows
