-- the laws of this crate, each file its own subject
pub mod TaggedLaws
pub mod ReportLaws
