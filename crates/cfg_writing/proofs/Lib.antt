-- the laws of this crate, each file its own subject
pub mod OrderLaws
pub mod JoinLaws
pub mod TextOfLaws
pub mod PlacedLaws
