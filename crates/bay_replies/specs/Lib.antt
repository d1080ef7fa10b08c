-- what a reply is asked of
pub mod Asking
-- what the parts of a bay stand for, and the reply that the model gives
pub mod Standing
-- what stands at the nodes, and the points of a request that writes nothing
pub mod Plain
pub mod Points
-- what leaves and nodes read as, and the replies, by the parts of the bay
pub mod Given
pub mod Reading
pub mod Replied
-- results, as far as a PDU can hold them
pub mod Held
