-- changes of each attribute at most one
pub mod DistinctChanges
-- what a step of the process makes of the values
pub mod SettingSteps
pub mod MarkLaws
pub mod ChangeLaws
-- the configured values
pub mod FirstValues
-- what setting groups make of them
pub mod LoadLaws
pub mod GroupLaws
