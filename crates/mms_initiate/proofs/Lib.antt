-- the laws of this crate, each file its own subject
pub mod InitiateLaws
pub mod InitiateOctetsLaws
