use Rattle.std.proofs.Common.{subst}
use Rattle.std.proofs.lemmas.List.Elements.{All-more}
use Rattle.pipes_output.specs.Lines.{IsEntry}
use Rattle.pipes_engine.proofs.limits.are_entries.Goals as goal

pub entries-preserved : goal.entries-preserved
entries-preserved c = All-more IsEntry c.args.entries.now c.entries.entry-index c.entry-item.result
    c.entries-test.true c.entries.invariant (subst IsEntry c.entry-item.is c.is_entry.ensures)
