-- what is given to threads
pub mod Closures
