-- the laws of this crate, each file its own subject
pub mod SetLaws
pub mod PlaceLaws
pub mod BookLaws
pub mod HistoryLaws
pub mod DeleteLaws
pub mod QuietLaws
pub mod OpenLaws
pub mod RoomLaws
