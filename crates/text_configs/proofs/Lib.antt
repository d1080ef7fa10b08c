-- names that are joined, and the tree that grows of them
pub mod JoinedLaws
pub mod NamedLaws
pub mod EntryLaws
pub mod FormLaws
pub mod TreeLaws
pub mod PlaceLaws
pub mod DataLaws
pub mod DepthLaws
pub mod FindLaws
-- how many octets a value has
pub mod LengthLaws
pub mod SizeLaws
-- what the lines of a text bring with them
pub mod ReachLaws
pub mod StandLaws
pub mod AttrLaws
pub mod SetLaws
pub mod ValueLaws
pub mod GroupLaws
pub mod ClashLaws
pub mod ControlLaws
pub mod ParameterLaws
pub mod CommandLaws
pub mod OrderLaws
pub mod ToldLaws
pub mod PathLaws
-- the members of its data sets, and all of it
pub mod CountLaws
pub mod BelowLaws
pub mod MemberLaws
pub mod ReferenceLaws
pub mod AllowedLaws
pub mod ServableLaws
pub mod Served
-- the laws of this crate, each file its own subject
pub mod SetNameLaws
