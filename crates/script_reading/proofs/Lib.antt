-- The laws of the reading of a rehearsal's input.
pub mod RunLaws
pub mod ReadingLaws
pub mod StageLaws
