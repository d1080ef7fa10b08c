-- The laws of what a record comes to: its lines one after another, and the text of its history.
pub mod LineLaws
pub mod OctetLaws
pub mod StatusLaws
mod WorkedLines
pub mod HistoryLaws
-- the laws of this crate, each file its own subject
pub mod LastLaws
-- the laws of this crate, each file its own subject
pub mod CompleteLaws
