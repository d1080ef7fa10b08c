-- What a record comes to: what each of its lines does, its status, and what is written to it.
pub mod Played
pub mod Moves
pub mod Steps
pub mod Openings
pub mod Opens
pub mod Records
pub mod Judgements
pub mod Statuses
pub mod Written
-- The history of a record, and the text of a history.
pub mod Histories
pub mod Texts
pub mod Laws
-- what holds of whole records
pub mod Grammar
