-- What reading and writing APDUs obey.
pub mod ContentLaws
pub mod ApduLaws
pub mod AnywhereLaws
pub mod ReadBackLaws
pub mod ShortestLaws
