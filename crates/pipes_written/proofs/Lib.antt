pub mod Splits
pub mod Writes
