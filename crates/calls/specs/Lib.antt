-- The definitions that the contracts cite.
pub mod Numbers
pub mod Standing
pub mod Kept
pub mod Answers
