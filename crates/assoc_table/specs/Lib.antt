-- what the associations of a bay stand for
pub mod Seats
pub mod Tables
pub mod Standing
pub mod Coming
