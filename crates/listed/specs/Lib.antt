pub mod Makes
pub mod Waiting
pub mod Layouts
pub mod Reading
pub mod Spelling
pub mod Padding
