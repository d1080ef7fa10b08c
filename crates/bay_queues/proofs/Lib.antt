-- What of the queues and the controls stays so, call by call.
pub mod RowLaws
pub mod DueLaws
pub mod CallLaws
pub mod TestLaws
pub mod StandLaws
-- what waits for an association, and what is heard of the singles of a request
pub mod QueueLaws
pub mod HeardLaws
-- controls keep their configurations
pub mod ControlLaws
