-- the members that are noted, and the notes of the blocks
pub mod MentionLaws
pub mod NoteLaws
-- the members of blocks, and their values
pub mod ServedLaws
pub mod WritableLaws
pub mod EventLaws
pub mod AllLaws
-- until when nothing is due, and what a take gives
pub mod QuietLaws
pub mod TakeLaws
-- the blocks after a deed
pub mod PartLaws
