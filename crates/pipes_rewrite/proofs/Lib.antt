pub mod ChangedValues
pub mod ChangedLists
pub mod ChangedLoop
