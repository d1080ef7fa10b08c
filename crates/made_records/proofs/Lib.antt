-- lines that are drawn one after another
pub mod Drawing
-- what is left of a record
pub mod Leaving
-- how long drawn lines are
pub mod Short
