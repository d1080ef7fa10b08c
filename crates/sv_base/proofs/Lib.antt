-- the laws of this crate, each file its own subject
pub mod GetLaws
pub mod RowLaws
pub mod SizeLaws
pub mod LengthLaws
pub mod DataFacts
pub mod FieldLaws
pub mod OwnerLaws
