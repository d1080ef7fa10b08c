-- what is known of the lines before one
pub mod Known
pub mod Drafts
