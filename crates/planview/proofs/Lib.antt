-- Lemmas that several proofs share.
pub mod Steps
