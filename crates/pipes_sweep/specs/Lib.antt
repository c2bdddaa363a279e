pub mod Waiting
pub mod Areas
pub mod Sending
pub mod Numbers
