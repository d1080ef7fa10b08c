-- the laws of this crate, each file its own subject
pub mod FrontLaws
pub mod ToldLaws
pub mod ItemLaws
pub mod SetLaws
pub mod FormLaws
pub mod NamedLaws
pub mod NodeLaws
pub mod SubLaws
pub mod EdgeLaws
pub mod OctetLaws
pub mod ClaimLaws
pub mod MemberLaws
pub mod AllowedLaws
pub mod WholeLaws
