-- the data sets that are there, and what defining and deleting makes of them
pub mod Books
pub mod Standing
pub mod Turns
pub mod Opening
