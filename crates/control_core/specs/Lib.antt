-- who has selected a control, what it executes, and what a call comes to
pub mod Coding
pub mod Commands
pub mod Blame
pub mod Stages
pub mod Controls
pub mod Opening
pub mod Answers
pub mod Tables
pub mod Standing
pub mod SelectionsAre
pub mod TerminationsWait
pub mod CallsAccepted
pub mod ExecutionsAre
