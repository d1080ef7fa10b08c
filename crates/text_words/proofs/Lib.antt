-- the laws of this crate, each file its own subject
pub mod NumberLaws
pub mod DigitLaws
pub mod ValueLaws
pub mod WordLaws
pub mod SpelledWordLaws
pub mod ReadWordLaws
pub mod NameLaws
pub mod PartLaws
