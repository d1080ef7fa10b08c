-- the laws of this crate, each file its own subject
pub mod RowLaws
pub mod FoundLaws
pub mod ChainLaws
