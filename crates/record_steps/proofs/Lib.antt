-- Steps that lines give, and that they fit.
pub mod StepLaws
pub mod FormLaws
pub mod StreamLaws
pub mod FedLaws
pub mod TellLaws
pub mod ToldLaws
