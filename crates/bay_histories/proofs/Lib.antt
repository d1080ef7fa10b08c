-- what a step and its answer hold may go to another thread
pub mod SendLaws
