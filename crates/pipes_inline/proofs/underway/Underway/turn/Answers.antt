use Rattle.std.proofs.Common.{◌≡◌, ◌<◌, length, get_or, set, arith, refl, ap, ◌∙◌}
use Rattle.std.proofs.lemmas.List.{get_or-set_same}
use Rattle.pipes_feed.specs.declared.reader.Next.{Next}
use Rattle.pipes_intake.specs.declared.intake.Intake.{Intake}
use Rattle.pipes_intake.specs.declared.intake.Turned.TheVariants.{Gave, Stopped}
use Rattle.pipes_intake.specs.Giving.{messages_of}
use Rattle.pipes_inline.specs.declared.underway.Underway.{Underway}
use Rattle.pipes_inline.proofs.Putting.{puts-none}
use Rattle.pipes_inline.proofs.Turning.{some-here, can-put, turned-here, turn-gave, turn-stopped}
use Rattle.pipes_inline.proofs.underway.Underway.turn.Goals as goal

pub turn-requires-clause-stands : goal.turn-requires-clause-stands
turn-requires-clause-stands g c =
    let h = c.requires.goes in
    some-here h.start h.lefts h.faults h.now c.args.self.now h.goes c.args.place
    (omega (arith, c.requires.in_range, h.goes.count)) _ _ h.left_is h.faults_are
    c.index_mut.result.now c.index_mut.ensures.value

pub put_step-requires-clause-can : goal.put_step-requires-clause-can
put_step-requires-clause-can g c κs within =
    let h = c.requires.goes in
    let l : c.args.place < length h.start.query.sources =
    omega (arith, c.requires.in_range, h.goes.count) in
    let t = turned-here h.start h.lefts h.faults h.now c.args.self.now h.goes c.args.place l
    _ _ h.left_is h.faults_are c.index_mut.result.now c.index_mut.ensures.value
    (g.S.Source.left c.turn.new.src) (g.S.Source.faults c.turn.new.src) c.turn.new.self
    c.in_ok-step.field-0 (Gave c.in-Gave.step) c.in-Gave.is c.in_ok-step.ensures.turned in
    can-put h.start h.lefts h.faults h.now c.args.self.now h.goes c.args.place l
    _ _ h.left_is h.faults_are c.index_mut.result.now c.index_mut.ensures.value
    (messages_of c.in-Gave.step) t.2

pub returns-in_ok-put_step-in-Gave-clause-turned : goal.returns-in_ok-put_step-in-Gave-clause-turned
returns-in_ok-put_step-in-Gave-clause-turned g c = λ start lefts faults now left_is faults_are goes.
    let old : Underway = c.args.self.now in
    let l : c.args.place < length start.query.sources =
    omega (arith, c.requires.in_range, goes.count) in
    let t = turned-here start lefts faults now old goes c.args.place l
    _ _ left_is faults_are c.index_mut.result.now c.index_mut.ensures.value
    (g.S.Source.left c.turn.new.src) (g.S.Source.faults c.turn.new.src) c.turn.new.self
    c.in_ok-step.field-0 (Gave c.in-Gave.step) c.in-Gave.is c.in_ok-step.ensures.turned in (
      turn-gave start lefts faults now old goes c.args.place l
          _ _ left_is faults_are c.index_mut.result.now c.index_mut.ensures.value
          (g.S.Source.left c.turn.new.src) (g.S.Source.faults c.turn.new.src) c.turn.new.self _
          refl refl c.in-Gave.step t c.in_ok-put_step-in-Gave.ensures.puts,
      tt,
    )

pub returns-in-Stopped-clause-turned : goal.returns-in-Stopped-clause-turned
returns-in-Stopped-clause-turned g c = λ start lefts faults now left_is faults_are goes.
    let old : Underway = c.args.self.now in
    let l : c.args.place < length start.query.sources =
    omega (arith, c.requires.in_range, goes.count) in
    let t = turned-here start lefts faults now old goes c.args.place l
    _ _ left_is faults_are c.index_mut.result.now c.index_mut.ensures.value
    (g.S.Source.left c.turn.new.src) (g.S.Source.faults c.turn.new.src) c.turn.new.self
    c.in_ok-step.field-0 (Stopped c.in-Stopped.reason) c.in-Stopped.is
    c.in_ok-step.ensures.turned in (
      turn-stopped start lefts faults now old goes c.args.place l
          _ _ left_is faults_are c.index_mut.result.now c.index_mut.ensures.value
          (g.S.Source.left c.turn.new.src) (g.S.Source.faults c.turn.new.src) c.turn.new.self _
          refl refl c.in-Stopped.reason t
          (puts-none old.works c.args.place old.top.items),
      (
        λ d. ap (λ (x : Intake). x.ahead.next)
            (get_or-set_same old.intakes.items c.args.place c.turn.new.self d c.requires.in_range)
            ∙ t.1,
        t.2,
      ),
    )
