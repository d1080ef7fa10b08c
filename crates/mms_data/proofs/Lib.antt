-- the laws of this crate, each file its own subject
pub mod ContentLaws
pub mod DataLaws
pub mod ViewLaws
pub mod GrammarLaws
pub mod MinimalLaws
pub mod WritingLaws
pub mod ReadBackLaws
pub mod ShortestLaws
pub mod TypeLaws
pub mod FitLaws
pub mod TypeElementLaws
