-- the bay's request of what a client asks
pub mod Requests
