-- the laws of this crate, each file its own subject
pub mod KeyLaws
pub mod PathLaws
pub mod NodeFacts
pub mod FactLaws
pub mod ConfigLaws
