-- The laws of the record of a rehearsal.
pub mod Listed
pub mod BackLaws
pub mod OctetLaws
-- What comes of a race is known.
pub mod Lows
pub mod Owns
pub mod BoundLaws
pub mod ApartLaws
pub mod Orders
pub mod KnownLaws
