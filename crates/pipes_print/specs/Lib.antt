pub mod ExprText
pub mod PlanText
pub mod Writable
pub mod Printed
