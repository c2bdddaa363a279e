use Rattle.std.proofs.Common.{rules, arith, ℕ, ◌∙◌, subst, List}
use Rattle.pipes_split.specs.Knowledge.{seat_knows, Knowledge}
use Rattle.pipes_stream.specs.declared.Elem.{Elem}
use Rattle.pipes_parcel.specs.declared.parcel.Fed.{Fed}
use Rattle.pipes_parcel.specs.declared.cutter.Rest.{Rest}
use Rattle.pipes_parcel.specs.declared.cutter.Rest.TheVariants.{Registered, Below, Above}
use Rattle.pipes_parcel.specs.Pieces.{RaisesEnd, MayStart}
use Rattle.pipes_parcel.specs.Placed.{Leaves}
use Rattle.pipes_parcel.proofs.Growing.{raises-on, closed-more, closed-next, may-start-more}
use Rattle.pipes_parcel.proofs.Growing.{may-start-next}
use Rattle.pipes_parcel.proofs.Putting.{cut-more, cut-registered, cut-below, above-starts}
use Rattle.pipes_parcel.proofs.Putting.{above-ends}
use Rattle.pipes_parcel.proofs.cutter.cut_from.Goals as goal

pub loop-epoch-preserved : goal.loop-epoch-preserved
loop-epoch-preserved c =
    let i = c.loop-epoch.invariant in
    let epoch : ℕ = c.loop-epoch.epoch in
    let e : Elem = c.args.elem in
    let rest : Elem = c.loop-epoch.rest in
    let above : Elem = c.in-Above.above in
    let begun : List Fed = c.loop-epoch.out.items in
    let out : List Fed = c.place.new.out.items in
    let first : Knowledge = seat_knows c.args.seat.now in
    let before : Knowledge = seat_knows c.loop-epoch.seat in
    let now : Knowledge = seat_knows c.place.new.seat in
    let raises : RaisesEnd before rest.span.end now = c.place.ensures.raises in
    let leaves : Leaves now epoch rest (Above above) begun out =
    subst (λ (left : Rest). Leaves now epoch rest left begun out) c.in-Above.is
    c.in_ok-place.ensures.leaves in
    let start : MayStart now epoch rest.span.start = may-start-more before now epoch rest.span.start
    raises.grows i.start in
    let h = leaves.1 in record {
      early = omega (arith, leaves.0);
      seat = search rules;
      raises = raises-on first before now c.end-end.result i.raises
          (subst (λ (n : ℕ). RaisesEnd before n now) i.end raises);
      closed = closed-next now epoch h.0 (closed-more before now epoch raises.grows i.closed) h.1;
      end = above-ends epoch h.0 rest above begun out h.2 ∙ i.end;
      start = may-start-next now epoch h.0 above.span.start h.1
          (above-starts epoch h.0 rest above begun out h.2);
      so_far = cut-more before now c.args.first epoch e rest above c.args.out.now.items begun out
          i.so_far raises.grows start leaves;
    }

pub register-requires-clause-closed : goal.register-requires-clause-closed
register-requires-clause-closed c =
    let i = c.loop-epoch.invariant in
    let epoch : ℕ = c.loop-epoch.epoch in
    let rest : Elem = c.loop-epoch.rest in
    let begun : List Fed = c.loop-epoch.out.items in
    let out : List Fed = c.place.new.out.items in
    let before : Knowledge = seat_knows c.loop-epoch.seat in
    let now : Knowledge = seat_knows c.place.new.seat in
    let raises : RaisesEnd before rest.span.end now = c.place.ensures.raises in
    let leaves : Leaves now epoch rest Below begun out =
    subst (λ (left : Rest). Leaves now epoch rest left begun out) c.in-Below.is
    c.in_ok-place.ensures.leaves in
    closed-next now epoch leaves.1.0 (closed-more before now epoch raises.grows i.closed)
    leaves.1.1

pub returns-in-Registered-clause-whole : goal.returns-in-Registered-clause-whole
returns-in-Registered-clause-whole c =
    let i = c.loop-epoch.invariant in
    let epoch : ℕ = c.loop-epoch.epoch in
    let rest : Elem = c.loop-epoch.rest in
    let begun : List Fed = c.loop-epoch.out.items in
    let out : List Fed = c.place.new.out.items in
    let before : Knowledge = seat_knows c.loop-epoch.seat in
    let now : Knowledge = seat_knows c.place.new.seat in
    let raises : RaisesEnd before rest.span.end now = c.place.ensures.raises in
    let leaves : Leaves now epoch rest Registered begun out =
    subst (λ (left : Rest). Leaves now epoch rest left begun out) c.in-Registered.is
    c.in_ok-place.ensures.leaves in
    cut-registered before now c.args.first epoch c.args.elem rest c.args.out.now.items begun out
    i.so_far raises.grows
    (may-start-more before now epoch rest.span.start raises.grows i.start) i.early leaves

pub returns-in-Registered-clause-registered : goal.returns-in-Registered-clause-registered
returns-in-Registered-clause-registered c =
    let i = c.loop-epoch.invariant in
    let epoch : ℕ = c.loop-epoch.epoch in
    let rest : Elem = c.loop-epoch.rest in
    let begun : List Fed = c.loop-epoch.out.items in
    let out : List Fed = c.place.new.out.items in
    let before : Knowledge = seat_knows c.loop-epoch.seat in
    let now : Knowledge = seat_knows c.place.new.seat in
    let raises : RaisesEnd before rest.span.end now = c.place.ensures.raises in
    let leaves : Leaves now epoch rest Registered begun out =
    subst (λ (left : Rest). Leaves now epoch rest left begun out) c.in-Registered.is
    c.in_ok-place.ensures.leaves in record {
      epoch = epoch;
      early = i.early;
      below = closed-more before now epoch raises.grows i.closed;
      open_there = leaves.1;
      top = omega (arith, leaves.0, i.end, c.end-end.ensures.value);
    }

pub returns-in-Below-clause-whole : goal.returns-in-Below-clause-whole
returns-in-Below-clause-whole c =
    let i = c.loop-epoch.invariant in
    let epoch : ℕ = c.loop-epoch.epoch in
    let rest : Elem = c.loop-epoch.rest in
    let begun : List Fed = c.loop-epoch.out.items in
    let out : List Fed = c.place.new.out.items in
    let before : Knowledge = seat_knows c.loop-epoch.seat in
    let now : Knowledge = seat_knows c.place.new.seat in
    let raises : RaisesEnd before rest.span.end now = c.place.ensures.raises in
    let leaves : Leaves now epoch rest Below begun out =
    subst (λ (left : Rest). Leaves now epoch rest left begun out) c.in-Below.is
    c.in_ok-place.ensures.leaves in
    cut-below before now (seat_knows c.register.new.seat) c.args.first epoch c.args.elem rest
    c.args.out.now.items begun out i.so_far raises.grows c.register.ensures.raises.grows
    (may-start-more before now epoch rest.span.start raises.grows i.start) leaves
