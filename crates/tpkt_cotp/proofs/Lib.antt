-- What reading and writing TPKTs and TPDUs obey.
pub mod PacketLaws
pub mod ParameterLaws
pub mod StreamLaws
pub mod ObjectLaws
pub mod KeptLaws
pub mod ReadBackLaws
pub mod TpduLaws
pub mod WrittenLaws
pub mod StepLaws
pub mod WrittenOctetLaws
