-- what waits for an association
pub mod WaitsFor
-- how many replies wait, by an actor's own steps
pub mod Opers
pub mod Queues
-- the history that a record of a race has
pub mod Written
-- what comes of the write of an EntryID
pub mod EntryIds
