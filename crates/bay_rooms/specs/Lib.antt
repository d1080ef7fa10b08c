-- octets and members, and values in memory
pub mod Rooms
pub mod Slots
