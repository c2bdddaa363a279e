use Rattle.std.proofs.Common.{rules, ◌≡◌, ◌∙◌, ap, refl, sym, None}
use Rattle.pipes_intake.specs.declared.ahead.Ahead.{Ahead}
use Rattle.pipes_inflow.specs.declared.inflow.Inflow.{Inflow}
use Rattle.pipes_inflow.proofs.Turning.{stays-stands, turn-item, turn-end, less-passes, unread}
use Rattle.pipes_inflow.proofs.inflow.Inflow.turn.Goals as goal

pub returns-then-not-has_room-clause-turns : goal.returns-then-not-has_room-clause-turns
returns-then-not-has_room-clause-turns g c = λ s first before gone taken h.
    let e = c.has_room.ensures in (
      stays-stands s first _ before _ gone taken c.args.self.now c.has_room.new.self e.ahead
          e.taken e.ended e.stays h,
      c.if-not-has_room.ensures.full,
    )

pub returns-in-Item-clause-turns : goal.returns-in-Item-clause-turns
returns-in-Item-clause-turns g c = λ s first before gone taken h.
    let e = c.has_room.ensures in
    let mid = c.has_room.new.self in
    let going : c.args.self.now.ended ≡ None = search rules in
    let there = stays-stands s first _ before _ gone taken c.args.self.now mid e.ahead e.taken
    e.ended e.stays h in
    turn-item s first before gone taken mid c.pass.new.self _ _ _ _ there (e.ended ∙ going)
    (e.stays.finished ∙ c.requires.may going) c.in-Item.arrival c.take.new.self
    (c.in-Item.ensures.more c.in-Item.arrival refl s.schema s.slack first before taken
    there.ahead)
    (c.in-Item.ensures.fewer c.in-Item.arrival refl s.schema s.slack first before taken
    there.ahead) c.pass.result c.pass.ensures.passes

pub returns-in-Item-clause-less : goal.returns-in-Item-clause-less
returns-in-Item-clause-less g c =
    let e = c.has_room.ensures in
    let h = c.requires.stands in
    let mid = c.has_room.new.self in
    let there = stays-stands h.s h.first _ h.before _ h.gone h.taken c.args.self.now mid e.ahead
    e.taken e.ended e.stays h.stands in
    let fewer = c.in-Item.ensures.fewer c.in-Item.arrival refl h.s.schema h.s.slack h.first
    h.before h.taken there.ahead in
    less-passes c.args.self.now _ c.pass.new.self c.in-Item.arrival c.pass.result
    c.pass.ensures.passes (rw (sym e.ahead) fewer)

pub returns-in-Ended-clause-turns : goal.returns-in-Ended-clause-turns
returns-in-Ended-clause-turns g c = λ s first before gone taken h.
    let e = c.has_room.ensures in
    let mid = c.has_room.new.self in
    let going : c.args.self.now.ended ≡ None = search rules in
    let there = stays-stands s first _ before _ gone taken c.args.self.now mid e.ahead e.taken
    e.ended e.stays h in
    let q = c.in-Ended.ensures.ended c.in-Ended.reason refl s.schema s.slack first before taken
    there.ahead in
    let took : Inflow = record {
      feeder = mid.feeder;
      ahead = c.take.new.self;
      taken = mid.taken;
      ended = mid.ended;
    } in
    let so = stays-stands s first _ before _ gone taken c.args.self.now took (q.0 ∙ e.ahead)
    e.taken e.ended e.stays h in
    unread g.S.Source.left g.S.Source.faults c.args.src.now c.take.new.src s first before gone
    taken c.end.new.self c.end.result q.1
    (turn-end s first before gone taken took c.end.new.self _ (g.S.Source.left c.args.src.now) _
    (g.S.Source.faults c.args.src.now) so (e.ended ∙ going)
    (e.stays.finished ∙ c.requires.may going) c.in-Ended.reason
    (ap (λ (a : Ahead). a.next) q.0 ∙ sym c.in-Ended.ensures.next) c.end.result
    c.end.ensures.ends)
