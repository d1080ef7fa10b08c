-- the laws of this crate, each file its own subject
pub mod EachLaws
pub mod ObjectNameLaws
pub mod VariableLaws
pub mod DatumLaws
pub mod NameListLaws
pub mod AccessLaws
pub mod VariableListLaws
pub mod ServiceLaws
pub mod RequestLaws
pub mod AnswerLaws
pub mod ResultLaws
pub mod ReplyPartLaws
pub mod ReplyLaws
pub mod ReplyAgainLaws
pub mod ReplyPlaceLaws
pub mod ReplyOctetsLaws
pub mod AskingLaws
