-- The definitions that the contracts cite.
pub mod Parts
pub mod Digits
pub mod Reasons
pub mod Reading
pub mod Writing
pub mod Worked
