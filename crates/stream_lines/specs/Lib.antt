-- The lines of streams, and the shapes of associations.
pub mod Lines
pub mod Shapes
