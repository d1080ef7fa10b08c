-- Scripts that race as threads over one bay, and the history that they make.
-- an actor's turns
pub mod Playing
-- passes for all actors, and what comes of their race
pub mod Dealing
pub mod Races
