-- the laws of this crate, each file its own subject
pub mod BuildLaws
pub mod ReadLaws
pub mod ShapeLaws
