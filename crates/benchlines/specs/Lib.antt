-- The definitions that the contracts cite.
pub mod Answers
pub mod Arguments
pub mod Input
pub mod Lines
pub mod Worked
