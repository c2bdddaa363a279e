pub mod Messages
pub mod Snapshots
pub mod Ports
pub mod Following
pub mod Weights
