-- which entries are retained
pub mod Held
pub mod Entries
pub mod Places
pub mod Rows
pub mod Rooms
pub mod Fitting
pub mod Ringed
pub mod Standing
