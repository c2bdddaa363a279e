pub mod Table
pub mod Names
pub mod Rewriting
pub mod Stepping
pub mod Deriving
