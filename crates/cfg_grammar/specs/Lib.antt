-- which texts spell a line, and which a configuration
pub mod Grammar
pub mod Follows
pub mod Texts
