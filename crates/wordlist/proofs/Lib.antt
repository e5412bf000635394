pub mod Bits
pub mod Parts
pub mod Runs
pub mod Spelling
pub mod Outcomes
