pub mod Facts
pub mod Contents
pub mod Rules
pub mod Reading
pub mod Spelling
pub mod Policies
pub mod Worked
