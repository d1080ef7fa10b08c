-- A rehearsal's input: its lines, what each does, and what they come to.
-- what an association is
pub mod Forms
pub mod Plans
pub mod Moves
pub mod Scripting
pub mod Openings
pub mod Inputs
-- what a whole input is
pub mod Grammar
-- what holds of every plan
pub mod Sound
