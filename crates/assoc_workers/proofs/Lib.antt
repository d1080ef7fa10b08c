-- the laws of this crate, each file its own subject
pub mod MadeLaws
pub mod WriteLaws
