pub mod OneRecord
pub mod Machine
pub mod PartFields
pub mod Copying
pub mod Walking
pub mod Slices
pub mod FirstLine
