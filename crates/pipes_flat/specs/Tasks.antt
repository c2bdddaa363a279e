-- What a filter, a map and a union are there for.
use Rattle.std.specs.Prelude.{false, List, [], ◌++◌, map, unwrap_or}
use Rattle.std.specs.List.{filter}
use Rattle.pipes_tuple.specs.declared.value.Kind.{Kind}
use Rattle.pipes_stream.specs.Lawful.{Task}
use Rattle.pipes_expr.specs.declared.expr.Expr.{Expr}
use Rattle.pipes_expr.specs.ExprValue.{passes}
use Rattle.pipes_relation.specs.Relations.{values_of}
use Rattle.pipes_plan.specs.PlanKinds.{map_kinds}

-- the rows on which the condition is true
abbrev pub filter_task : Expr → List Kind → Task
filter_task condition schema = record {
  ports = 1;
  takes = λ port. schema;
  gives = schema;
  meaning = λ bags. filter (passes condition) (bags 0);
  lags = false;
}

-- each row replaced by the values of the expressions
abbrev pub map_task : List Expr → List Kind → Task
map_task exprs schema = record {
  ports = 1;
  takes = λ port. schema;
  gives = unwrap_or (map_kinds exprs schema) [];
  meaning = λ bags. map (values_of exprs) (bags 0);
  lags = false;
}

-- the rows of both sides
abbrev pub union_task : List Kind → Task
union_task schema = record {
  ports = 2;
  takes = λ port. schema;
  gives = schema;
  meaning = λ bags. bags 0 ++ bags 1;
  lags = false;
}
