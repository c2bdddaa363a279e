pub mod Says
pub mod Merging
pub mod Operators
pub mod Passing
pub mod Nodes
