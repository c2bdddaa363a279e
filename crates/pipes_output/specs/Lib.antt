pub mod Lines
pub mod Periods
pub mod NormalText
pub mod Ranks
pub mod Changes
pub mod Cuts
pub mod Sweeps
pub mod Fields
