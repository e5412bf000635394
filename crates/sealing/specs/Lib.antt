-- The definitions that the contracts cite.
pub mod Outcome
pub mod Ground
pub mod Located
pub mod Laws
