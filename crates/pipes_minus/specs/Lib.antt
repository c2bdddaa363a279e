pub mod Tasks
pub mod Differences
pub mod Feeds
pub mod Minuses
pub mod MinusLaw
