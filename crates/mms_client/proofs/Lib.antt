pub mod LinkLaws
pub mod ReferenceLaws
pub mod MeaningLaws
pub mod StreamLaws
pub mod FollowLaws
pub mod OpeningLaws
pub mod ConnectLaws
pub mod ClientLaws
