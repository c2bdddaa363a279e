use Rattle.std.proofs.Common.{◌∙◌, ap, refl, sym}
use Rattle.pipes_intake.specs.declared.ahead.Ahead.{Ahead}
use Rattle.pipes_intake.proofs.Turning.{turn-item, stays-stands, fewer-item, fewer-same}
use Rattle.pipes_intake.proofs.Turning.{turned-same}
use Rattle.pipes_intake.proofs.intake.Intake.turn.Goals as goal

pub end_so-requires-clause-next : goal.end_so-requires-clause-next
end_so-requires-clause-next g c =
    let h = c.requires.stands in
    let same = c.in-Ended.ensures.ended c.in-Ended.reason refl h.s.schema h.s.slack h.first
    h.before h.taken h.stands.ahead in
    ap (λ (a : Ahead). a.next) same.0 ∙ sym c.in-Ended.ensures.next

pub end_so-requires-clause-stands : goal.end_so-requires-clause-stands
end_so-requires-clause-stands g c =
    let h = c.requires.stands in
    let same = c.in-Ended.ensures.ended c.in-Ended.reason refl h.s.schema h.s.slack h.first
    h.before h.taken h.stands.ahead in (
      g.S.Source.left c.args.src.now,
      g.S.Source.faults c.args.src.now,
      record {
        s = h.s;
        first = h.first;
        before = h.before;
        taken = h.taken;
        list = h.list;
        stands = stays-stands h.s h.first _ h.before _ h.taken h.list c.args.self.now _ same.0 refl
            refl h.stands;
      },
    )

pub returns-in_ok-step-in-Item-clause-turned : goal.returns-in_ok-step-in-Item-clause-turned
returns-in_ok-step-in-Item-clause-turned g c = λ s first before taken list stands.
    turn-item s first _ before _ taken list c.args.self.now _ c.in_ok-step-in-Item.step stands
    c.requires.going c.in-Item.arrival _ _ refl (sym c.in-Item.ensures.next)
    (c.in-Item.ensures.more c.in-Item.arrival refl s.schema s.slack first before taken
    stands.ahead) c.in_ok-step-in-Item.ensures.takes c.in_ok-step-in-Item.ensures.last

pub returns-in_ok-step-in-Item-clause-fewer : goal.returns-in_ok-step-in-Item-clause-fewer
returns-in_ok-step-in-Item-clause-fewer g c =
    let h = c.requires.stands in
    fewer-item c.args.self.now
    (record {
      alloc = c.args.self.now.alloc;
      ahead = c.take.new.self;
      arrivals = c.give.new.arrivals;
      ended = c.args.self.now.ended;
    }) c.requires.going refl
    (c.in-Item.ensures.fewer c.in-Item.arrival refl h.s.schema h.s.slack h.first h.before
    h.taken h.stands.ahead)

pub returns-in-Ended-clause-turned : goal.returns-in-Ended-clause-turned
returns-in-Ended-clause-turned g c =
    turned-same g.S.Source.left g.S.Source.faults c.args.src.now c.take.new.src c.args.self.now
    (record {
      alloc = c.args.self.now.alloc;
      ahead = c.take.new.self;
      arrivals = c.args.self.now.arrivals;
      ended = c.args.self.now.ended;
    }) c.end_so.new.self c.end_so.result refl refl
    (λ kinds slack first before taken ahead. c.in-Ended.ensures.ended c.in-Ended.reason
    refl kinds slack first before taken ahead) c.end_so.ensures.turned

pub returns-in-Ended-clause-fewer : goal.returns-in-Ended-clause-fewer
returns-in-Ended-clause-fewer g c =
    let h = c.requires.stands in
    let same = c.in-Ended.ensures.ended c.in-Ended.reason refl h.s.schema h.s.slack h.first
    h.before h.taken h.stands.ahead in
    fewer-same c.args.self.now
    (record {
      alloc = c.args.self.now.alloc;
      ahead = c.take.new.self;
      arrivals = c.args.self.now.arrivals;
      ended = c.args.self.now.ended;
    }) c.end_so.new.self c.end_so.result same.0 refl c.end_so.ensures.fewer
