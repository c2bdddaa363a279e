pub mod Rising
pub mod Slides
pub mod Times
