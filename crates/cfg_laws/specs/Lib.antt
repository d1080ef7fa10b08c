-- which line is the first that is refused, and why
pub mod Kinds
pub mod Forms
pub mod Names
pub mod Words
pub mod Lines
pub mod Texts
