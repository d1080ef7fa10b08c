-- the lock: what a seat knows, what always holds, and its steps
pub mod Views
pub mod Rule
pub mod Plays
pub mod Seats
-- what contracts see
pub mod Passes
