-- The definitions that the contracts cite.
pub mod Blank
pub mod Kept
