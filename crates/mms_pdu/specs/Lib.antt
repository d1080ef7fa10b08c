-- what is in a PDU, and which elements spell it
pub mod Each
pub mod ObjectName
pub mod Variable
pub mod Datum
-- what is asked
pub mod Service
pub mod NameList
pub mod Access
pub mod VariableLists
pub mod Services
pub mod Request
pub mod RequestReading
pub mod AskingOctets
-- what a server sends
pub mod Answer
pub mod Results
pub mod Reply
pub mod ReplyReading
pub mod ReplyOctets
-- what the program gives, as what is in a PDU
pub mod View
pub mod ReplyView
