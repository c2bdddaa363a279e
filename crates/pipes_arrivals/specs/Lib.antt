pub mod Arriving
pub mod Laws
pub mod Taking
