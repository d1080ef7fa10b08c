-- the items that the lines of a configuration name
pub mod Items
