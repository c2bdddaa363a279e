pub mod Taken
pub mod Bags
