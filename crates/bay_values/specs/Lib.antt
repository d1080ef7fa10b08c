-- the values of attributes, and what changed of them
pub mod Changed
pub mod Marked
pub mod Held
pub mod Loaded
