-- the laws of this crate, each file its own subject
pub mod ReaderLaws
pub mod OptionLaws
pub mod StepLaws
pub mod OctetLaws
pub mod ElementLaws
pub mod RowLaws
pub mod PartsLaws
pub mod PlaceLaws
pub mod FieldLaws
pub mod AlikeLaws
pub mod UintLaws
pub mod IntLaws
pub mod TextLaws
pub mod BitLaws
pub mod BooleanLaws
pub mod Theorems
