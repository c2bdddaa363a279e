pub mod Runs
pub mod Deeds
pub mod Parts
