-- what a line says, what it takes and makes, and what the lines before it say of it
pub mod Keys
pub mod Paths
pub mod Before
pub mod Facts
pub mod Claims
pub mod Configs
pub mod Sizes
pub mod Nodes
pub mod Spelled
