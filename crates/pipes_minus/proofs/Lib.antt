pub mod Tallying
pub mod Taking
pub mod Stepping
