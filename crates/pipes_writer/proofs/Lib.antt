pub mod Certain
pub mod Lines
pub mod Forms
pub mod Calls
