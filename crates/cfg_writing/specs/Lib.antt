-- the text of a configuration
pub mod Written
pub mod Objects
