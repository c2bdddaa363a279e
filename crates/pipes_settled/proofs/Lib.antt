pub mod Leveling
pub mod Instants
pub mod Moving
pub mod Certain
pub mod Tables
pub mod Stepping
pub mod Calls
