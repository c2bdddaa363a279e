pub mod Packing
pub mod Packed
