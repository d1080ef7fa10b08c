-- which octets are an element, a row of elements, and the content of each kind
pub mod Octets
pub mod Reader
pub mod Steps
pub mod Element
pub mod Content
pub mod Reading
pub mod Rows
pub mod Place
pub mod Fields
