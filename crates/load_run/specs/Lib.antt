-- what a history comes to in numbers, and one step more of it
pub mod Summaries
pub mod Counting
-- what lines make of a bay and its numbers
pub mod Loads
