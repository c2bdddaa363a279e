use Rattle.std.proofs.Common.{◌<◌, List, refl, subst, sym, ◌∙◌}
use Rattle.std.specs.List.{All}
use Rattle.pipes_timeline.specs.Rules.{Arrival}
use Rattle.pipes_timeline.specs.Filed.{elem_end}
use Rattle.pipes_timeline.proofs.Filing.{none_due, popped}
use Rattle.pipes_timeline.proofs.ends.Ends.pop.Goals as goal

pub returns-then-to-first : goal.returns-then-to-first
returns-then-to-first c = (
  refl,
  subst (λ (es : List Arrival). All (λ s. c.args.to < s.1.span.end) es) c.self.view_is
      (none_due elem_end c.args.to c.self.inside.next c.in_ok-first.first.now
      c.self.inside.elems.entries
      c.self.invariant c.if-to-first.true c.in_ok-first.ensures.all_from),
)

pub returns : goal.returns
returns c =
    let p = popped elem_end c.args.to c.self.inside.next c.in_ok-sided.field-0-0
    c.in_ok-first.first.now
    c.in_ok-sided.sided c.in_ok-first.field-0-1.now c.pop_first.new.self.entries
    c.self.inside.elems.entries c.self.invariant c.in_ok-sided.ensures.removal
    c.in_ok-first.ensures.first c.if-to-first.false c.in_ok-sided.ensures.all_above in
    (sym c.self.view_is ∙ p.0, p.1, p.2)
