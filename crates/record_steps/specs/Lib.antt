-- What a line says, from its names and values to its step.
pub use Rattle.record_values.specs.Shapes
pub use Rattle.record_values.specs.Settings
pub mod Asks
pub mod Streams
pub mod Fed
pub mod Forms
pub mod Told
pub mod Resolved
pub mod Telling
pub mod Own
-- what the associations are, by their numbers
pub mod Formed
