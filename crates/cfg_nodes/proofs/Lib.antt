-- the laws of this crate, each file its own subject
pub mod NodeLaws
pub mod IndexLaws
pub mod PlaceLaws
pub mod PartLaws
pub mod OctetLaws
pub mod PartNameLaws
pub mod PresenceLaws
pub mod WantedLaws
pub mod AskedLaws
pub mod HeadLaws
