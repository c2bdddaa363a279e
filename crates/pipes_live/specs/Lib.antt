pub mod Lives
pub mod Deeds
