-- From a TPKT to the stream of them, and what is written.
pub mod Failing
pub mod Packet
pub mod Parameters
pub mod Tpdu
pub mod Stream
pub mod Written
