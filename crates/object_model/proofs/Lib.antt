-- the laws of this crate, each file its own subject
pub mod RunLaws
pub mod ListingLaws
pub mod ApartLaws
pub mod NameLaws
pub mod TableLaws
pub mod StandsLaid
pub mod AttributeLaws
pub mod KindLaws
pub mod SendLaws
pub mod SyncLaws
-- the laws of this crate, each file its own subject
pub mod SetNameLaws
