-- The definitions that the contracts cite.
pub mod Piles
pub mod Words
pub mod Reading
pub mod PilesLemmas
