-- The definitions that the contracts cite.
pub mod Entries
pub mod Kept
pub mod Laws
