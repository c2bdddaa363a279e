pub mod Floors
pub mod Growing
pub mod Calls
pub mod Spans
pub mod Lags
