-- Which outputs can be sent, as a test.
pub mod Sendable
