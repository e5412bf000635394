-- Lemmas that several proofs share.
pub mod Numbers
pub mod Cuts
pub mod Counts
pub mod Turns
pub mod Back
