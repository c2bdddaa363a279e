pub mod Typing
pub mod Puts
pub mod Keeping
