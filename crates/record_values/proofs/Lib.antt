-- Settings that lines say, and that they fit.
pub mod ShapeLaws
pub mod SettingLaws
pub mod FitLaws
mod WorkedLines
