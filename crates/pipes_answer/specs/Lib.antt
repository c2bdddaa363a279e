pub mod Whole
pub mod Gives
pub mod Lines
pub mod Gathering
