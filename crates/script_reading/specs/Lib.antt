-- what the reading stands for
pub mod Readings
