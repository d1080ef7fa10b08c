-- the order of names
pub mod Sorting
