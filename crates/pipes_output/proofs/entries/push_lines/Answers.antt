use Rattle.std.proofs.Common.{arith, subst}
use Rattle.std.proofs.lemmas.Grind.{common_steps}
use Rattle.std.proofs.lemmas.List.Elements.{All-more}
use Rattle.pipes_output.specs.Lines.{IsEntry}
use Rattle.pipes_output.proofs.entries.push_lines.Goals as goal

pub entries-preserved : goal.entries-preserved
entries-preserved c = record {
  longer = grind (arith, common_steps);
  kept = grind (arith, common_steps);
  entries =
      All-more IsEntry c.args.entries.now c.entries.entry-index c.entry-item.result
      c.entries-test.true
      c.entries.invariant.entries (subst IsEntry c.entry-item.is c.in_ok-push_line.ensures.entry);
  written = grind (arith, common_steps);
}
