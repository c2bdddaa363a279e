pub mod Taken
pub mod Ahead
pub mod Giving
