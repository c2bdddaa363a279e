use Rattle.std.proofs.Common.{rules, List, subst}
use Rattle.std.specs.Map.{values_of}
use Rattle.pipes_timeline.specs.Rules.{Arrival}
use Rattle.pipes_timeline.specs.Ends.{AddsArrival}
use Rattle.pipes_timeline.specs.Filed.{elem_end}
use Rattle.pipes_timeline.proofs.Filing.{filed_put, adds_put}
use Rattle.pipes_timeline.proofs.ends.Ends.put.Goals as goal

pub invariant_of-self-2 : goal.invariant_of-self-2
invariant_of-self-2 c =
    filed_put elem_end (c.end-end.result, c.self.inside.next) c.in_ok-next.next
    (c.args.port, c.args.elem)
    c.self.inside.elems.entries c.insert.new.self.entries c.end-end.ensures.value (search rules)
    c.self.invariant c.in_ok-insert.ensures.entries

pub returns : goal.returns
returns c =
    subst
    (λ (old : List Arrival). AddsArrival (c.args.port, c.args.elem) old
    (values_of c.insert.new.self.entries))
    c.self.view_is
    (adds_put elem_end (c.end-end.result, c.self.inside.next) (c.args.port, c.args.elem)
    c.self.inside.elems.entries c.insert.new.self.entries c.self.invariant
    c.in_ok-insert.ensures.entries)
