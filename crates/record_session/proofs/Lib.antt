-- The laws of a record's parts, of its lines as they are read, of the octets that they are read from, and of the pieces of a replay.
pub mod PlayLaws
pub mod StageLaws
pub mod LimitLaws
pub mod ReadingOn
pub mod Feeding
pub mod Judging
pub mod Fronts
