pub mod Errand
pub mod Asked
pub mod Outcome
pub mod Seen
pub mod Running
