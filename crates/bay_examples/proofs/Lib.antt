-- the laws of this crate, each file its own subject
pub mod WorkedNames
pub mod WorkedReports
pub mod WorkedBreaks
pub mod WorkedBuffer
pub mod WorkedResumes
pub mod WorkedHolding
pub mod WorkedReservations
pub mod WorkedBlocks
pub mod WorkedReads
pub mod WorkedControls
pub mod WorkedSelections
pub mod WorkedSettings
pub mod WorkedRequests
