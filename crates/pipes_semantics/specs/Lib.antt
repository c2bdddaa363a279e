pub mod Answer
pub mod Written
pub mod Right
pub mod Run
