-- the blocks, and the bay, at the arrival of a point and after a deed
pub mod MoveLaws
-- the arrival of a point
pub mod ArriveLaws
-- requests
pub mod UncalledLaws
pub mod AskLaws
pub mod CameLaws
-- reads of variables
pub mod IdleLaws
pub mod TurnLaws
pub mod ReadLaws
pub mod LentLaws
-- names of data sets
pub mod AnswerLaws
-- openings and losses
pub mod EndLaws
pub mod FurnishLaws
-- settings: the values, the notes of the blocks, and the entries
pub mod SettingLaws
-- writes
pub mod WriteLaws
pub mod SingleLaws
pub mod CalledLaws
pub mod BlameLaws
pub mod ProcessLaws
pub mod GroupLaws
-- reports
pub mod TakenLaws
pub mod SentLaws
-- how a bay begins
pub mod FirstState
-- the parts after a write
pub mod WrittenLaws
-- data sets that clients define and delete
pub mod DefineLaws
pub mod RemoveLaws
pub mod DeletionLaws
pub mod ChangedLaws
-- threads
pub mod SendLaws
pub mod SyncLaws
