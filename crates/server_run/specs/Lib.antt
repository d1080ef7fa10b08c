-- What a rehearsal comes to.
pub mod Rehearsals
