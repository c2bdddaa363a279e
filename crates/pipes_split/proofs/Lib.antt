pub mod Maps
pub mod Changes
pub mod Keeping
pub mod Telling
pub mod Parts
