-- what fits a configuration
pub mod Fits
