-- which outputs of a bay can be sent
pub mod Shapes
