-- From the grammar of APDUs to how they are read and written.
pub mod Grammar
pub mod Apdu
pub mod Contents
pub mod Reading
pub mod Written
pub mod Plain
