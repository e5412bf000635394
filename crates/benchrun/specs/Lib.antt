-- The definitions that the contracts cite.
pub mod Hall
pub mod Lines
pub mod Printed
