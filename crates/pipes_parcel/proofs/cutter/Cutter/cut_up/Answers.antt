use Rattle.std.proofs.Common.{rules, ℕ, subst}
use Rattle.atomic_table.specs.declared.shared.Seat.{Seat}
use Rattle.pipes_split.specs.declared.views.View.{View}
use Rattle.pipes_parcel.specs.Pieces.{RaisesEnd}
use Rattle.pipes_split.specs.Knowledge.{seat_knows, Knowledge}
use Rattle.pipes_parcel.proofs.Growing.{begins-at, begins-more, raises-on}
use Rattle.pipes_parcel.proofs.Putting.{whole-all}
use Rattle.pipes_parcel.proofs.cutter.Cutter.cut_up.Goals as goal

pub cut_whole-requires-clause-begins : goal.cut_whole-requires-clause-begins
cut_whole-requires-clause-begins c =
    begins-at (seat_knows c.first_epoch-first.new.seat) c.first_epoch-first.result c.start.result
    c.args.elem.span.start c.start.ensures.value c.first_epoch-first.ensures.begins

pub invariant_of-self : goal.invariant_of-self
invariant_of-self c = (
  search rules,
  begins-more (seat_knows c.first_epoch-first.new.seat) (seat_knows c.cut_whole.new.seat)
      c.first_epoch-first.new.first c.first_epoch-first.new.low c.cut_whole.ensures.raises.grows
      c.first_epoch-first.ensures.later,
)

pub returns-clause-raises : goal.returns-clause-raises
returns-clause-raises c =
    let end : ℕ = c.args.elem.span.end in
    let before : Knowledge = seat_knows c.self.inside.seat in
    let looked : Knowledge = seat_knows c.first_epoch-first.new.seat in
    let now : Knowledge = seat_knows c.cut_whole.new.seat in
    let raises : RaisesEnd before end now = raises-on before looked now end
    (c.first_epoch-first.ensures.raises end) c.cut_whole.ensures.raises in
    subst (λ (s : Seat (Unit {0}) View). RaisesEnd (seat_knows s) end now) c.self.view_is raises

pub returns-clause-whole : goal.returns-clause-whole
returns-clause-whole c =
    whole-all c.cut_whole.result (seat_knows c.cut_whole.new.seat) c.first_epoch-first.result
    c.args.elem c.args.out.now.items c.cut_whole.new.out.items c.cut_whole.ensures.whole
