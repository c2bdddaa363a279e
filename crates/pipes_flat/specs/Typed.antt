-- Conditions and lists of expressions with the schema over which they are typed.
use Rattle.std.specs.Prelude.{List}
use Rattle.pipes_tuple.specs.declared.value.Kind.{Kind}
use Rattle.pipes_expr.specs.declared.expr.Expr.{Expr}

pub record ConditionOver : Type 0 where
  pub expr : Expr
  pub schema : List Kind

pub record ExprsOver : Type 0 where
  pub exprs : List Expr
  pub schema : List Kind
