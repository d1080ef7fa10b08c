-- a client of a server of MMS
pub mod Faults
pub mod Requests
pub mod References
pub mod Arrivals
pub mod Meaning
pub mod Reports
pub mod Following
pub mod Opening
pub mod Standing
