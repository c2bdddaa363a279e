pub mod Saying
pub mod Merges
pub mod Passed
pub mod Emitting
pub mod Totals
pub mod NodeSteps
pub mod Stood
pub mod Sent
