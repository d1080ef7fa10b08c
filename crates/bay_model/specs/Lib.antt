-- The definitions of a bay, in the order in which they stand on each other. In all of them c is the model; a is the
-- number of an association, b of a report block, k of a control, d of a domain, x of an attribute, n of a node; p is a
-- point, before are the points before it, and past ends with the point that is spoken of.
-- `f_after` says what one more deed makes of f.

-- what a bay is configured with
pub mod Roles
pub mod Model
pub mod Lookups
pub mod Configured
-- a history's points, and the values and parameters at each
pub mod Points
pub mod Settings
pub mod Values
pub mod Parameters
pub mod Sets
-- from events to entries
pub mod Notes
pub mod Mentions
pub mod Breaks
pub mod Events
pub mod Groups
pub mod Entries
pub mod Retained
-- from entries to reports, and who may write to a block
pub mod Associations
pub mod Blocks
pub mod Reservations
pub mod Reports
-- controls
pub mod Commands
pub mod Controls
pub mod Selections
pub mod Calls
-- what waits for associations
pub mod Sizes
pub mod Waiting
pub mod Outputs
-- the tree of names
pub mod ComponentTable
pub mod Generated
pub mod NamedLines
pub mod Attributes
pub mod NameTree
pub mod Places
pub mod Named
-- single reads and writes
pub mod Outcomes
pub mod Components
pub mod Reads
pub mod BlockWrites
pub mod SettingWrites
pub mod Writes
pub mod Singles
-- requests and steps
pub mod Names
pub mod Definitions
pub mod Deletions
pub mod Services
pub mod Takes
pub mod Answers
pub mod Acceptance
-- laws of every history
pub mod Successors
pub mod EntryLaws
pub mod CursorLaws
pub mod ReservationLaw
pub mod ReservationsAre
pub mod SettingLaw
