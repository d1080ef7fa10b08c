-- The laws of a rehearsal's input.
pub mod TellLaws
pub mod LineLaws
pub mod SoundLaws
pub mod WholeLaws
pub mod PlanLaws
