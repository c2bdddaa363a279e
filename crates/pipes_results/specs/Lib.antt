pub mod Answered
pub mod Texts
pub mod Kept
