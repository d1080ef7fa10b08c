-- the configured data sets
pub mod FirstBook
-- the blocks
pub mod FirstParts
