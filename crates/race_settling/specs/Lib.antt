-- What a race comes to.
pub mod Races
pub mod Settled
-- The actors of a plan.
pub mod Casting
