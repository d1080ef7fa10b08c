-- the laws of this crate, each file its own subject
pub mod SaidLaws
pub mod MinimalLaws
mod CutLaws
mod LongReadLaws
