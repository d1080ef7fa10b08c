-- the laws of this crate, each file its own subject
pub mod SeatLaws
pub mod StandLaws
pub mod SendLaws
