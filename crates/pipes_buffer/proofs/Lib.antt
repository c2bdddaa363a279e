pub mod Appended
pub mod Passing
pub mod Each
