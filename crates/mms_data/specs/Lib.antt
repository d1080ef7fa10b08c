-- values and types as octets
pub mod Grammar
pub mod Reading
pub mod View
pub mod Writable
pub mod TypeOctets
