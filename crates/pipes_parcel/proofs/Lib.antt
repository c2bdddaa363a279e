pub mod Growing
pub mod Cuts
pub mod Putting
pub mod Standing
