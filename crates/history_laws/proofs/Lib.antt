-- what waits for an association
pub mod RestLaws
pub mod ShortLaws
-- how many replies wait, by an actor's own steps
pub mod SingleLaws
pub mod SetLaws
pub mod OwedLaws
pub mod QueueLaws
-- the history that a record of a race has
pub mod WrittenLaws
-- what an EntryID is refused by
mod EntryIdLaws
