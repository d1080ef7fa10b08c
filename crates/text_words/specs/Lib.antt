-- which words spell a number, a name, a type and a value
pub mod Octets
pub mod Words
pub mod Names
pub mod Numbers
pub mod Types
pub mod Values
pub mod Spelled
pub mod Grammar
