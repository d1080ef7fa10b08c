-- From the parts of octets to a connection that is read, and what is written.
pub mod Places
pub mod Parameters
pub mod ParameterReading
pub mod Units
pub mod UnitReading
pub mod UserData
pub mod ContextList
pub mod ContextReading
pub mod Presentation
pub mod PresentationReading
pub mod Written
pub mod WrittenPpdu
pub mod View
pub mod ViewOfContexts
pub mod Plain
pub mod OneWay
