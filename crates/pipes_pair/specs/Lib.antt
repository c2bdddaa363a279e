pub mod Tasks
pub mod Meeting
pub mod Sides
pub mod Joins
pub mod ByKey
pub mod Made
pub mod JoinLaw
