pub mod Setting
pub mod Runs
pub mod Wrong
pub mod Takings
pub mod Touching
pub mod WholeRun
