-- What a difference is there for.
use Rattle.std.specs.Prelude.{true, List}
use Rattle.pipes_tuple.specs.declared.value.Kind.{Kind}
use Rattle.pipes_stream.specs.Lawful.{Task}
use Rattle.pipes_relation.specs.Relations.{minus}

-- the left rows, less one for each equal row at the right
abbrev pub minus_task : List Kind → Task
minus_task schema = record {
  ports = 2;
  takes = λ port. schema;
  gives = schema;
  meaning = λ bags. minus (bags 0) (bags 1);
  lags = true;
}
