use Rattle.std.proofs.Common.{arith, subst}
use Rattle.std.proofs.lemmas.Grind.{common_steps}
use Rattle.std.proofs.lemmas.List.Elements.{All-more}
use Rattle.pipes_tuple.specs.Limits.{IsValue}
use Rattle.pipes_output.proofs.write.push_fields.Goals as goal

pub values-preserved : goal.values-preserved
values-preserved c = record {
  longer = grind (arith, common_steps);
  kept = grind (arith, common_steps);
  limits =
      All-more IsValue c.args.values.now c.values.value-index c.value-item.result c.values-test.true
      c.values.invariant.limits (subst IsValue c.value-item.is c.print.ensures.limits);
  written = grind (arith, common_steps);
}
