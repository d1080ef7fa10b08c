-- the laws of this crate, each file its own subject
pub mod SliceLaws
pub mod SpotLaws
pub mod BitLaws
