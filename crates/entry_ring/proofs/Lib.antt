-- the laws of this crate, each file its own subject
pub mod RowLaws
pub mod RoomLaws
pub mod FitLaws
pub mod HoldLaws
