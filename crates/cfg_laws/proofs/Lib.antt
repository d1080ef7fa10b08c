-- the laws of this crate, each file its own subject
pub mod StepLaws
pub mod NameLaws
pub mod WrongLaws
pub mod LongLaws
pub mod FormLaws
pub mod LineLaws
pub mod TextLaws
