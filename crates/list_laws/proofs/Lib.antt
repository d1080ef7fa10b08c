-- elements and their places
pub mod Among
pub mod Places
pub mod Appended
pub mod EachLaws
-- orders, and elements that differ
pub mod Sorting
pub mod Distinct
pub mod Sums
-- truth values
pub mod Truths
-- steps that may fail, and what a map from names finds
pub mod Options
pub mod Indexed
