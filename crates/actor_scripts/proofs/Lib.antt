-- Replies and steps of a history, by their places.
pub mod Lists
