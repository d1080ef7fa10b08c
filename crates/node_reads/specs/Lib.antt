-- what the leaves of a node read as
pub mod Reading
pub mod Queues
