pub mod Algebra
pub mod PlanKinds
pub mod Sizes
pub mod Refusals
pub mod Found
