pub mod Staying
pub mod Cutting
pub mod Packs
