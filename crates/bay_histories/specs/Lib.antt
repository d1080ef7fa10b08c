-- Why a step is refused, what a step is answered, and histories by those who made their steps.
pub mod Faults
pub mod Rules
pub mod Turns
pub mod Histories
