-- the laws of this crate, each file its own subject
pub mod OneElement
pub mod ReadableLaws
pub mod AgainLaws
pub mod GivenLaws
