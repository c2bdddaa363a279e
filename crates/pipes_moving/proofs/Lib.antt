pub mod Tops
pub mod Ahead
pub mod Settling
pub mod Ending
pub mod Beginning
pub mod Taking
pub mod Coalescing
