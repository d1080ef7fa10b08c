-- From what may be agreed to what an object stands for.
pub mod Lines
pub mod Framed
pub mod Causes
pub mod Called
pub mod Calling
pub mod Machine
pub mod Stream
pub mod Going
pub mod Running
pub mod Standing
pub mod Sides
pub mod Open
pub mod Spelled
pub mod Refusals
