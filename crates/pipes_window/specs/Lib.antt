pub mod Items
pub mod Windows
pub mod Laws
pub mod State
pub mod Valid
