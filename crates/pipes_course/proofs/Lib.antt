pub mod Rest
pub mod Loop
pub mod Cutting
