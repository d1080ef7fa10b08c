-- how an association begins
pub mod Initiate
pub mod InitiateReading
pub mod InitiateOctets
