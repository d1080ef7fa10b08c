-- what the responses hold
pub mod RepliesVariables
pub mod RepliesContents
pub mod RepliesSizes
-- what is sent of controls
pub mod ControlPdus
-- the PDUs of what a bay answers, and what they say
pub mod Replies
pub mod RepliesTold
