pub mod CellSets
pub mod Rows
