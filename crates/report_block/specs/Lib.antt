-- what a block keeps of an entry
pub mod EntryOctets
-- a block, what it stands for, and what comes of a point
pub mod Standing
pub mod Coming
pub mod Events
pub mod Alls
pub mod Writes
pub mod Components
pub mod Due
pub mod Reading
-- which entry is reported next
pub mod Offers
