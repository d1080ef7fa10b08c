-- the laws of this crate, each file its own subject
pub mod RepliesSizeLaws
pub mod RepliesContentsLaws
pub mod RepliesNamesLaws
pub mod ControlPduLaws
pub mod RepliesShortLaws
pub mod RepliesToldLaws
pub mod RepliesAskedLaws
