-- the laws of this crate, each file its own subject
pub mod MemberLaws
pub mod WholeLaws
pub mod StandLaws
pub mod OpenedLaws
pub mod HeadLaws
pub mod NumberSizes
pub mod LargestLaws
