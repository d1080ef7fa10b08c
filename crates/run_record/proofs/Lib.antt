-- the laws of this crate, each file its own subject
pub mod WordLaws
pub mod SeenLaws
pub mod SpaceLaws
pub mod OctetLaws
pub mod ReadLaws
pub mod ToldLaws
pub mod WrittenLaws
pub mod RefusedLaws
pub mod AnswerLaws
