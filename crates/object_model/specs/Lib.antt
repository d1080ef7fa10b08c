-- the nodes, attributes, blocks and controls of a configuration, by their numbers
pub use Rattle.name_leaves.specs.Numbers
pub use Rattle.name_leaves.specs.References
pub use Rattle.name_tree.specs.Nodes
pub mod Runs
pub mod Listed
pub mod Fits
pub mod Tables
pub mod Rows
