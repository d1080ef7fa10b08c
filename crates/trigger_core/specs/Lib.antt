-- the members that a point is an event of, and why
pub mod Noted
pub mod Points
