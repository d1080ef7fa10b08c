-- The law of a list of one text.
pub mod OneWord
