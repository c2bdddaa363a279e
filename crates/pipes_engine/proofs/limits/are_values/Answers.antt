use Rattle.std.proofs.Common.{subst}
use Rattle.std.proofs.lemmas.List.Elements.{All-more}
use Rattle.pipes_tuple.specs.Limits.{IsValue}
use Rattle.pipes_engine.proofs.limits.are_values.Goals as goal

pub values-preserved : goal.values-preserved
values-preserved c = All-more IsValue c.args.values.now c.values.value-index c.value-item.result
    c.values-test.true c.values.invariant (subst IsValue c.value-item.is c.is_value.ensures)
