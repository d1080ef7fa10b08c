-- Scripts that are run, and what comes of them in a history.
pub mod Scripts
pub mod Merging
-- where a script stops, and what came of all of them
pub mod Stops
pub mod Actors
pub mod Raced
