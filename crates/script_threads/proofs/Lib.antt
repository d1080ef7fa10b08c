-- the laws of this crate, each file its own subject
pub mod Plays
pub mod Races
pub mod SendLaws
pub mod Closures
