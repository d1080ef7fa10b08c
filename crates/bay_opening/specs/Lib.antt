-- the blocks and the associations with which a bay begins
pub mod Opened
