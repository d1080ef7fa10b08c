-- how long names are
pub mod NameLaws
-- attributes by their numbers, and what the points of a history have come to
pub mod AttrLaws
pub mod DeedLaws
-- what waits, and what is said of commands
pub mod WaitingLaws
pub mod CommandLaws
pub mod TerminationLaws
-- values are of their types
pub mod ValueLaws
pub mod ReadLaws
pub mod SetLaws
pub mod ReplyLaws
pub mod OfferLaws
pub mod DataLaws
pub mod EntryLaws
pub mod KeepLaws
pub mod AscendLaws
pub mod FilledLaws
pub mod ReportLaws
-- how deep a tree is
pub mod TreeLaws
pub mod ItemLaws
pub mod DepthLaws
pub mod ShallowLaws
