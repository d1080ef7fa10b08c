-- The record of a rehearsal, and that it is read back.
pub mod Merged
pub mod ReadBack
-- What comes of a race, and how it is known before.
pub mod Verdicts
pub mod Bounds
pub mod Known
