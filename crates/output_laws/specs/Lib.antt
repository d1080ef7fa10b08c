-- histories whose steps fit, and how long the names of a configuration are
pub mod Legal
pub mod Names
-- what can be sent of what a bay answers
pub mod Sendable
