pub mod Calming
pub mod Alike
