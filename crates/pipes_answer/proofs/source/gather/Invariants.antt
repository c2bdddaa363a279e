use Rattle.std.proofs.Common.{◌≡◌, ◌≤◌, ◌-◌, None}
use Rattle.pipes_feed.specs.Ahead.{arrivals_ahead}
use Rattle.pipes_feed.specs.State.{fresh_reader}
use Rattle.pipes_answer.specs.Gathering.{HasTaken}
use Rattle.pipes_answer.proofs.source.gather.Given as goal

abbrev pub invariant-items : goal.invariant-items
invariant-items g l = record {
  later : g.S.Source.faults l.initial.src ≤ g.S.Source.faults l.src;
  name : g.S.Source.name l.src ≡ g.S.Source.name l.initial.src;
  found_at : g.S.Source.found_at l.src ≡ g.S.Source.found_at l.initial.src;
  going : l.reader.ended ≡ None;
  kinds : l.reader.kinds ≡ l.source.schema;
  slack : l.reader.slack ≡ l.source.slack;
  window : l.rows.kind ≡ l.source.window;
  instant : l.rows.time ≡ l.time;
  taken : HasTaken l.source.schema l.source.slack
      (arrivals_ahead (fresh_reader l.source.schema l.source.slack) (g.S.Source.left l.initial.src))
      (arrivals_ahead l.reader (g.S.Source.left l.src)) l.reader.reached l.waiting l.rows;
}

abbrev pub decreases-items : goal.decreases-items
decreases-items g l = 4000000 - l.reader.reached.items
