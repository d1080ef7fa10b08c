-- Which words ask for a made record.
pub mod Made
-- What the program answers.
pub mod Tool
-- How a text is written.
pub mod Writing
-- What is answered to a configuration.
pub mod Checked
-- What is written of a made record that is replayed.
pub mod Loaded
