pub mod Asks
pub mod Told
pub mod Replies
pub mod Pacing
pub mod Steep
pub mod Coalesced
pub mod Floors
