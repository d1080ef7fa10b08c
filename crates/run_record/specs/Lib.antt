-- which texts are the lines of a record
pub mod Spelled
pub mod Grammar
pub mod Contents
pub mod Judging
pub mod Octets
pub mod Seen
pub mod Refused
pub mod Answers
