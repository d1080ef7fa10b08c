-- the laws of this crate, each file its own subject
pub mod CommandLaws
pub mod StandLaws
pub mod EndingLaws
pub mod SingleLaws
pub mod TurnLaws
pub mod SelectedLaws
pub mod CallLaws
pub mod ExecutedLaws
