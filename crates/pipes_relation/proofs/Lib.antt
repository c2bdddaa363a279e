pub mod Sums
pub mod DistinctRows
pub mod Keys
pub mod Tables
pub mod Joins
pub mod Counting
