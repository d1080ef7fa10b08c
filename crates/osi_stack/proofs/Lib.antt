-- What streams, and the objects that were fed with them, obey.
pub mod StreamLaws
pub mod FitLaws
pub mod ConnectionLaws
pub mod StandingLaws
pub mod RunLaws
pub mod ReadBackLaws
pub mod AnsweredLaws
pub mod RunSideLaws
pub mod SpelledLaws
pub mod TellsLaws
pub mod GoesLaws
pub mod RefusalLaws
pub mod RefusedStreamLaws
pub mod SentLaws
pub mod WorkedStreams
