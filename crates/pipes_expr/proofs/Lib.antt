pub mod Comparisons
pub mod ConcatenatedRows
pub mod ExprInduction
pub mod ExprEquations
pub mod ExprTyped
pub mod ExprRefusal
