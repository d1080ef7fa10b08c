-- the laws of this crate, each file its own subject
pub mod GroupLaws
pub mod PutLaws
pub mod LeafLaws
pub mod GrowLaws
pub mod LargestLaws
-- the laws of this crate, each file its own subject
pub mod DirectoryLaws
pub mod ResolveLaws
pub mod CutLaws
-- the laws of this crate, each file its own subject
pub mod StandLaws
pub mod AttrLaws
pub mod NodeLaws
