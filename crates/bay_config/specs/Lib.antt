-- what a bay asks of a configuration
pub mod Servable
