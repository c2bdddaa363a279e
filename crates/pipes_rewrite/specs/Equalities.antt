-- Equality of expressions, plans and lists in them, as tests.
use Rattle.std.specs.Prelude.{Bool, List, ℕ, nat_eq}
use Rattle.std.specs.Cmp.Lexicographic.{pointwise}
use Rattle.pipes_expr.specs.CodedEqual.{coded_eq}
use Rattle.pipes_expr.specs.declared.expr.Expr.{Expr}
use Rattle.pipes_expr.specs.contracts.expr.Expr as expr
use Rattle.pipes_plan.specs.declared.plan.Plan.{Plan}
use Rattle.pipes_plan.specs.contracts.plan.Plan as plan
use Rattle.pipes_relation.specs.declared.lists.Pair.{Pair}
use Rattle.pipes_relation.specs.contracts.lists.PairPartialEq.TheImpl as pair

abbrev pub same_expr : Expr → Expr → Bool
same_expr = coded_eq expr.the_row.coded

abbrev pub same_plan : Plan → Plan → Bool
same_plan = coded_eq plan.the_row.coded

abbrev pub same_exprs : List Expr → List Expr → Bool
same_exprs = pointwise same_expr

abbrev pub same_pairs : List Pair → List Pair → Bool
same_pairs = pointwise pair.ghosts.eq
