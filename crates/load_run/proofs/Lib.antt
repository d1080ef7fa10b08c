-- One answer more in a summary.
pub mod CountLaws
-- A step, a line, and what they make of what a loading stands for.
pub mod LineLaws
-- The history of a made record.
pub mod RecordLaws
