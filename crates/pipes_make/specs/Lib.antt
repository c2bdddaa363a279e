pub mod Draws
pub mod Made
pub mod Sources
pub mod Scripts
pub mod Texts
