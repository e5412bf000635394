pub mod Halls
pub mod Table
