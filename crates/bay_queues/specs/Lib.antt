-- what waits for associations, and what the controls execute
pub mod Queued
-- what came of the single reads and writes of a request
pub mod Heard
pub mod Calling
-- what is taken, and what is put
pub mod Taken
-- what it stands for
pub mod Standing
