use Rattle.std.proofs.Common.{◌≡◌, ◌<◌, ℕ, List, Option, None, Some, length, get_or, arith, refl}
use Rattle.std.proofs.Common.{subst}
use Rattle.pipes_buffer.proofs.Appended.{map_ok}
use Rattle.pipes_intake.specs.declared.intake.Step.{Step}
use Rattle.pipes_intake.specs.Giving.{messages_of, Finishes}
use Rattle.pipes_inline.specs.declared.underway.Underway.{Underway}
use Rattle.pipes_inline.proofs.Putting.{puts-none}
use Rattle.pipes_inline.proofs.Finishing.{some-stands, can-put_last, finishes-here, finish-gave}
use Rattle.pipes_inline.proofs.Finishing.{finish-none}
use Rattle.pipes_inline.proofs.ending.finish_one.Goals as goal

pub finish-requires : goal.finish-requires
finish-requires g c =
    let r = c.requires.ends in (
      get_or r.3.lefts c.args.place None,
      get_or r.3.faults c.args.place 0,
      some-stands r.0 c.args.place r.1 r.2 c.args.underway.now r.3
          (omega (arith, c.requires.in_range, r.3.count)) c.index_mut.result.now
          c.index_mut.ensures.value,
    )

pub put_step-requires-clause-can : goal.put_step-requires-clause-can
put_step-requires-clause-can g c κs within =
    let r = c.requires.ends in
    let l : c.args.place < length r.0.query.sources =
    omega (arith, c.requires.in_range, r.3.count) in
    let f = finishes-here r.0 c.args.place r.1 r.2 c.args.underway.now r.3 l
    c.index_mut.result.now c.index_mut.ensures.value c.in_ok-step.field-0 (Some c.in-Some.step)
    c.in-Some.is c.in_ok-step.ensures in
    can-put_last r.0 c.args.place r.1 r.2 c.args.underway.now r.3 l
    c.index_mut.result.now c.index_mut.ensures.value (messages_of c.in-Some.step) f.1

pub returns-in-Some-clause-ends : goal.returns-in-Some-clause-ends
returns-in-Some-clause-ends g c = map_ok c.put_step.result (λ puts start now taken e.
    let old : Underway = c.args.underway.now in
    let l : c.args.place < length start.query.sources =
    omega (arith, c.requires.in_range, e.count) in
    let f = finishes-here start c.args.place now taken old e l
    c.index_mut.result.now c.index_mut.ensures.value c.in_ok-step.field-0 (Some c.in-Some.step)
    c.in-Some.is c.in_ok-step.ensures in
    finish-gave start c.args.place now taken old e l
    c.index_mut.result.now c.index_mut.ensures.value c.finish.new.self _ refl refl
    c.in-Some.step f puts)
    c.put_step.ensures.puts

pub returns-in-None-clause-ends : goal.returns-in-None-clause-ends
returns-in-None-clause-ends g c = λ start now taken e.
    let old : Underway = c.args.underway.now in
    let l : c.args.place < length start.query.sources =
    omega (arith, c.requires.in_range, e.count) in
    let f = finishes-here start c.args.place now taken old e l
    c.index_mut.result.now c.index_mut.ensures.value c.in_ok-step.field-0 None
    c.in-None.is c.in_ok-step.ensures in
    finish-none start c.args.place now taken old e l
    c.index_mut.result.now c.index_mut.ensures.value c.finish.new.self _ refl refl
    f (puts-none old.works c.args.place old.top.items)
