pub mod Aggregate
pub mod Relations
pub mod Tables
pub mod Counted
