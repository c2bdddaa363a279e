pub mod Certainty
pub mod Standing
pub mod Moves
