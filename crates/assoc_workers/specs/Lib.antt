-- the steps that an actor made in a call
pub mod Made
-- what a side that writes does, one take of it, and why it ends
pub mod Writing
pub mod Taking
pub mod Causes
