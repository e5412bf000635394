-- The definitions that the contracts cite.
pub mod Numbers
pub mod Sight
pub mod Faults
pub mod Laws
pub mod Cases
