pub mod Feeds
pub mod Turning
