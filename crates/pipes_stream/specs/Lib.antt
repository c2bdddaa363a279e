pub mod Snapshot
pub mod Progress
pub mod Lists
pub mod Lawful
pub mod Weights
