pub mod Shapes
pub mod Prompt
pub mod Networks
pub mod Parts
pub mod Boxes
pub mod Backlog
pub mod Rounds
