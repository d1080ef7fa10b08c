-- a bay, what it stands for, and what a step makes of it
pub mod State
pub mod Standing
pub mod Turns
-- time
pub mod Timed
pub mod Whole
-- what a write makes of the data set that a block reports
pub mod Written
pub mod Put
-- requests
pub mod Asked
pub mod Turned
pub mod Deleted
-- calls of controls
pub mod Commanded
pub mod Came
