-- the laws of this crate, each file its own subject
pub mod DueLaws
pub mod WatchLaws
pub mod RoomLaws
-- the members of data sets, and their shapes
pub mod ShapeLaws
-- the book, and what a DatSet finds in it
pub mod BookLaws
-- the data set of a block, as an index holds it
pub mod IndexLaws
