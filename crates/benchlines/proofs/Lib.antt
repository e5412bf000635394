-- Lemmas: what a loop's step and its end show.
mod Feeds
mod Hexes
mod Steps
