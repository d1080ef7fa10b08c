-- what stands at names, numbers by name, and the references of a configuration
pub mod Seen
pub mod Leaves
pub mod Hashing
pub mod Numbers
pub mod Indexes
pub mod Items
pub mod Attributes
pub mod References
