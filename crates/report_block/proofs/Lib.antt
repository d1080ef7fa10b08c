-- the laws of this crate, each file its own subject
pub mod BodyLaws
pub mod StandLaws
pub mod PlainLaws
-- which entry is reported next
pub mod UpLaws
pub mod OfferLaws
pub mod EarlierLaws
-- the calls of time, of events and of writes
pub mod AllLaws
pub mod PassLaws
pub mod DueLaws
pub mod ReadingLaws
