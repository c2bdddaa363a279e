use Rattle.std.proofs.Common.{◌≡◌, ◌-◌}
use Rattle.pipes_reader.specs.Reading.{many_within}
use Rattle.pipes_reader.proofs.many.many_within.Given as goal

-- what is left to read gives the whole
abbrev pub invariant-loop-count : goal.invariant-loop-count
invariant-loop-count g l =
    many_within (l.fn.limit - l.count) (g.E.Entries.step l.fn.context)
    (g.E.Entries.over l.fn.context) l.entries l.cursor
    ≡ many_within l.fn.limit (g.E.Entries.step l.fn.context)
    (g.E.Entries.over l.fn.context) l.fn.entries l.fn.cursor
