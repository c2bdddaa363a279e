pub mod Queries
pub mod Scripts
