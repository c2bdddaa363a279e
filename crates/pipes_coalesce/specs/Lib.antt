pub mod Bags
pub mod Filed
pub mod Tests
pub mod Joined
pub mod Merging
pub mod Merged
pub mod Stands
