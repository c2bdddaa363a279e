use Rattle.std.proofs.Common.{◌≡◌, ◌++◌, length, flat_map}
use Rattle.pipes_run.specs.Outcome.{kind_part}
use Rattle.pipes_run.proofs.check.push_each.Given as goal

abbrev pub invariant-kinds : goal.invariant-kinds
invariant-kinds l = l.initial.text.items ++ flat_map kind_part l.kinds ≡ l.text.items
    ++ flat_map kind_part l.rest

abbrev pub decreases-kinds : goal.decreases-kinds
decreases-kinds l = length l.rest
