-- rows of octets, and the place of one
pub mod Laid
pub mod Hashing
pub mod Found
pub mod Chains
