-- What the words of a command line are.
pub mod Words
