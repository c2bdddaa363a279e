-- The kind of an expression or its first refusal, as one walk over the nodes finds it.
use Rattle.std.specs.Prelude.{◌≡◌, List, [], slice_get, Option, Some, None, Result, Ok, Err}
use Rattle.pipes_tuple.specs.declared.value.Kind.{Kind}
use Rattle.pipes_tuple.specs.Kinds.{kind_of}
use Rattle.pipes_expr.specs.declared.why.Why.{Why}
use Rattle.pipes_expr.specs.declared.why.Why.TheVariants.{NoColumn, WrongKind}
use Rattle.pipes_expr.specs.declared.expr.Expr.{Expr, fold-Expr}
use Rattle.pipes_expr.specs.declared.expr.Expr.TheOpen.{Expr-F, Col, Literal, Binary, Not}
use Rattle.pipes_expr.specs.ExprKind.{op_kind, not_kind}
use Rattle.pipes_expr.specs.ExprWhys.{first_of}

-- the kind where the list of refusals is empty, and else its first
abbrev pub Settles : Result Kind Why → List Why → Option Kind → Type 0
Settles (Ok k) whys o = (whys ≡ []) × (o ≡ Some k)
Settles (Err why) whys o = first_of whys ≡ Some why

abbrev pub kind_or : Why → Option Kind → Result Kind Why
kind_or why (Some k) = Ok k
kind_or why None = Err why

abbrev pub result_two : (Kind → Kind → Option Kind)
    → Result Kind Why → Result Kind Why → Result Kind Why
result_two f (Err why) b = Err why
result_two f (Ok j) (Err why) = Err why
result_two f (Ok j) (Ok k) = kind_or WrongKind (f j k)

abbrev pub result_one : (Kind → Option Kind) → Result Kind Why → Result Kind Why
result_one f (Err why) = Err why
result_one f (Ok k) = kind_or WrongKind (f k)

abbrev pub result_step : Expr-F (List Kind → Result Kind Why) → List Kind → Result Kind Why
result_step (Col i) s = kind_or NoColumn (slice_get s i)
result_step (Literal v) s = Ok (kind_of v)
result_step (Binary o a b) s = result_two (op_kind o) (a s) (b s)
result_step (Not a) s = result_one not_kind (a s)

abbrev pub kind_or_why : Expr → List Kind → Result Kind Why
kind_or_why = fold-Expr (List Kind → Result Kind Why) result_step
