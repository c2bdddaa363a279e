pub mod Ran
pub mod Standing
pub mod Ending
