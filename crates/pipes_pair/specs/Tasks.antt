-- What a join is there for.
use Rattle.std.specs.Prelude.{ℕ, zero, suc, false, List, ◌++◌}
use Rattle.pipes_tuple.specs.declared.value.Kind.{Kind}
use Rattle.pipes_stream.specs.Lawful.{Task}
use Rattle.pipes_relation.specs.declared.lists.Pair.{Pair}
use Rattle.pipes_expr.specs.declared.expr.Expr.{Expr}
use Rattle.pipes_relation.specs.Relations.{joined}

-- the schema of a port
abbrev pub side_kinds : List Kind → List Kind → ℕ → List Kind
side_kinds left right zero = left
side_kinds left right (suc port) = right

-- the concatenations of the rows that meet
abbrev pub join_task : List Pair → Expr → List Kind → List Kind → Task
join_task pairs condition left right = record {
  ports = 2;
  takes = side_kinds left right;
  gives = left ++ right;
  meaning = λ bags. joined pairs condition (bags 0) (bags 1);
  lags = false;
}
