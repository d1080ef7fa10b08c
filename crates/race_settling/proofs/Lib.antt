-- The laws of races and of what they come to.
pub mod RaceLaws
pub mod SettleLaws
-- The laws of casting.
pub mod CastLaws
pub mod SeatLaws
