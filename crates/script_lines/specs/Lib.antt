-- The lines of scripts.
pub mod Parties
pub mod Lines
pub mod Grammar
pub mod Seen
