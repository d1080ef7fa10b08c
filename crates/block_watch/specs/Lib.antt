-- which blocks are touched, and when they have something due
pub mod Watched
pub mod Dues
-- which data sets are served
pub mod Served
