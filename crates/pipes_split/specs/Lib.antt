pub mod Views
pub mod Knowledge
pub mod Seats
pub mod Rule
pub mod AfterSteps
pub mod Cutting
