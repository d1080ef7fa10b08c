-- numbers, alone and under a tag
pub mod Invoke
pub mod Tagged
-- the elements of a report
pub mod Reports
