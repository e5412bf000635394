-- The definitions that the contracts cite.
pub mod Tests
pub mod Reach
pub mod Ancestors
pub mod Extents
pub mod Rights
pub mod Entitlement
pub mod Laws
pub mod Worked
