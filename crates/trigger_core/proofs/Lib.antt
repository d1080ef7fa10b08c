-- the laws of this crate, each file its own subject
pub mod NoteLaws
pub mod ReasonLaws
pub mod BehindLaws
