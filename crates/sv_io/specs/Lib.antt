-- what was read and written, and why a call failed
pub mod Causes
pub mod Ends
pub mod Taken
pub mod Memory
-- connections: those that are accepted, and those that are dialled
pub mod Accepts
pub mod Connections
