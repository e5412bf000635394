pub mod Growing
pub mod Turns
pub mod Order
pub mod Exactly
pub mod Numbers
pub mod Standing
