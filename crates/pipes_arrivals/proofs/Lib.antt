pub mod Parting
pub mod Rising
pub mod Releasing
pub mod Rows
pub mod Through
pub mod Coming
