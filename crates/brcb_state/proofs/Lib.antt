-- the laws of this crate, each file its own subject
pub mod FlagLaws
pub mod ReservedLaws
pub mod HolderLaws
pub mod AnswerLaws
pub mod WriteLaws
pub mod ReadLaws
