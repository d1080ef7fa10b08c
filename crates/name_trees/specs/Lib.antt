-- the nodes of lines and those of the model
pub mod ByModel
