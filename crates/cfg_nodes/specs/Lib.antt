-- the nodes that lines make, and what a member names
pub mod LeafLists
pub mod PartNames
pub mod Indexed
pub mod Asked
