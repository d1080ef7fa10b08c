-- The lines of answers.
pub mod Texts
