pub mod Reading
pub mod Tuples
pub mod Beats
pub mod Known
pub mod Giving
pub mod Turning
