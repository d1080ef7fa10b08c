-- how names grow into a tree
pub mod Groups
pub mod Leaves
pub mod Grown
-- the names of nodes, and what they find
pub mod Directories
pub mod Finding
pub mod Sorting
-- the nodes of a configuration by their numbers, their attributes and what stands at them
pub mod Nodes
pub mod Attrs
pub mod Stands
