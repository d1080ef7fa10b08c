-- Texts that were added to.
pub mod PrefixLaws
