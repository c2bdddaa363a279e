pub mod Reached
pub mod Judged
pub mod Items
pub mod State
pub mod Ahead
pub mod AnswersJudged
pub mod Waiting
pub mod Released
