pub mod Leading
pub mod Keeping
pub mod Telling
