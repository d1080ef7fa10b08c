-- Words that ask for a made record.
pub mod Asking
-- A text that is written in pieces.
pub mod Writing
