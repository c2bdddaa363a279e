pub mod Fault
pub mod Pieces
