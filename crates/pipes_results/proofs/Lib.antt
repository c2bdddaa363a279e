pub mod Keeping
pub mod Transfer
pub mod Entries
pub mod Texts
