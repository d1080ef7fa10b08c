-- the lines that a seed draws
pub mod Made
-- their texts, and that of the record
pub mod Texts
-- what is left of a record
pub mod Left
