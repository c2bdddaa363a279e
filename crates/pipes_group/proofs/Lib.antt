pub mod Queue
pub mod Moving
pub mod Counted
pub mod PartTurns
pub mod Tallies
pub mod GroupSteps
