-- the values of attributes, and the octets of a member
pub mod Written
pub mod Stored
pub mod Opened
pub mod Members
pub mod Leaves
pub mod Wholes
