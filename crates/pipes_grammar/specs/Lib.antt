pub mod Ops
pub mod Grammar
pub mod Limits
pub mod Reading
pub mod ExprReading
pub mod ListReading
pub mod PlanReading
pub mod Places
