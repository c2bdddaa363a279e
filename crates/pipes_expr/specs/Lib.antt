pub mod CodedEqual
pub mod ExprValue
pub mod ExprKind
pub mod Seen
pub mod ExprSize
pub mod ExprWhys
pub mod Outcomes
