-- What the reading of a record stands for.
pub mod Plays
pub mod Sessions
-- and of its octets, as a source gives them
pub mod Runs
-- whatever the status is
pub mod Fronts
