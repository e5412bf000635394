pub mod Drawings
pub mod Corners
