-- the laws of this crate, each file its own subject
pub mod LengthLaws
pub mod ElementLaws
pub mod WrittenLaws
pub mod NumberLaws
pub mod ShortestLaws
pub mod BitLaws
pub mod SameLaws
