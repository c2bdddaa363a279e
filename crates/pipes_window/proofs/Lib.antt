pub mod Lists
pub mod Rising
pub mod Splits
pub mod Snapshots
pub mod Heartbeats
pub mod Passing
pub mod Taking
pub mod Gathering
