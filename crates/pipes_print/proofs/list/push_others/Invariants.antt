use Rattle.std.proofs.Common.{◌≡◌, ◌++◌, drop, codes}
use Rattle.std.specs.List.{flat_map}
use Rattle.pipes_print.proofs.list.push_others.Given as goal

abbrev pub invariant-loop-entry : goal.invariant-loop-entry
invariant-loop-entry g l = l.out.items ++ flat_map (λ entry. codes ", " ++ g.T.Entry.text entry)
    (drop l.entry-index l.entries) ≡ l.fn.out.items ++ flat_map (λ entry. codes ", "
    ++ g.T.Entry.text entry) l.entries
