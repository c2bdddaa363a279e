pub mod Filing
pub mod Tabling
pub mod Calling
pub mod SentCopies
pub mod Turns
pub mod Telling
pub mod Fed
pub mod Beginning
