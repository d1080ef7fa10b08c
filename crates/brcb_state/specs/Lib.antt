-- what a block without its entries stands for
pub mod Flags
pub mod Changes
pub mod Refusals
pub mod Components
pub mod Standing
