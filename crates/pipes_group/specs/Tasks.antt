-- What a distinct and a group are there for.
use Rattle.std.specs.Prelude.{ℕ, true, false, List, [], unwrap_or}
use Rattle.pipes_tuple.specs.declared.value.Kind.{Kind}
use Rattle.pipes_stream.specs.Lawful.{Task}
use Rattle.pipes_relation.specs.declared.lists.Agg.{Agg}
use Rattle.pipes_relation.specs.Relations.{distinct, grouped}
use Rattle.pipes_plan.specs.PlanKinds.{group_kinds}

-- each row once
abbrev pub distinct_task : List Kind → Task
distinct_task schema = record {
  ports = 1;
  takes = λ port. schema;
  gives = schema;
  meaning = λ bags. distinct (bags 0);
  lags = false;
}

-- a row for each tuple of values in the columns: these, and the aggregates of its rows
abbrev pub group_task : List ℕ → List Agg → List Kind → Task
group_task columns aggs schema = record {
  ports = 1;
  takes = λ port. schema;
  gives = unwrap_or (group_kinds columns aggs schema) [];
  meaning = λ bags. grouped columns aggs (bags 0);
  lags = true;
}
