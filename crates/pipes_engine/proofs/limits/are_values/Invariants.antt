use Rattle.std.proofs.Common.{take}
use Rattle.std.specs.List.{All}
use Rattle.pipes_tuple.specs.Limits.{IsValue}
use Rattle.pipes_engine.proofs.limits.are_values.Given as goal

abbrev pub invariant-values : goal.invariant-values
invariant-values l = All IsValue (take l.value-index l.values)
