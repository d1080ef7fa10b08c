-- the laws of this crate, each file its own subject
pub mod SpelledLineLaws
pub mod ReadLineLaws
pub mod WholeLaws
pub mod KeptLaws
pub mod RewriteLaws
