-- what the elements of a PDU say, and how short it is
pub mod Said
