pub mod Pieces
pub mod Feds
pub mod Laws
pub mod Placed
