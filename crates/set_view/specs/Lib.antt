-- the members of a data set
pub mod Shapes
