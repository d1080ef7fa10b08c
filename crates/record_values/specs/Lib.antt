-- What the values of lines are.
pub mod Shapes
pub mod Settings
pub mod Found
