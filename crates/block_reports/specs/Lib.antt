-- an entry's members from what a block keeps of it
pub mod Again
-- its report
pub mod Reporting
pub mod Blanks
