pub mod Reading
pub mod Sentences
pub mod Causes
pub mod Places
pub mod Texts
pub mod Names
pub mod Taking
