-- what changes make of the blocks, and the entries that they get of it
pub mod Events
-- time
pub mod Timed
-- losses
pub mod Parting
