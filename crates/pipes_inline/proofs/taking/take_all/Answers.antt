use Rattle.std.proofs.Common.{rules, ◌≡◌, ◌≤◌, ◌<◌, ◌∙◌, map, length, get_or, set, List, ℕ, Option}
use Rattle.std.proofs.Common.{None, Some, sym, ap, subst, arith, length-set}
use Rattle.pipes_feed.specs.declared.reason.Reason.{Reason}
use Rattle.pipes_output.specs.declared.form.Form.{Form}
use Rattle.pipes_buffer.proofs.Appended.{on_err}
use Rattle.pipes_results.specs.declared.results.Results.{Results}
use Rattle.pipes_results.specs.Kept.{form_of}
use Rattle.pipes_inline.specs.Standing.{StopsSo, CutShort}
use Rattle.pipes_inline.proofs.Places.{read-at, keeps-at, later-at, goes-at}
use Rattle.pipes_inline.proofs.taking.take_all.Goals as goal

pub turn-requires-clause-goes : goal.turn-requires-clause-goes
turn-requires-clause-goes g c κs within =
    let r = c.requires.goes in
    let xs = c.turns.srcs in
    let d = c.index-srcs-place.result in
    let goes = c.turns.invariant.goes r.0 r.1 in
    let l : c.in-Some.place < length xs =
    omega (arith, c.in-Some.ensures.some.0, c.turns.invariant.count) in
    record {
      start = r.0;
      lefts = map g.S.Source.left xs;
      faults = map g.S.Source.faults xs;
      now = g.K.Sink.written c.turns.out;
      goes = goes;
      left_is = read-at xs c.in-Some.place d d l g.S.Source.left None;
      faults_are = read-at xs c.in-Some.place d d l g.S.Source.faults 0;
    }

pub returns-in_err-reason-clause-err : goal.returns-in_err-reason-clause-err
returns-in_err-reason-clause-err g c = on_err c.from_residual.result (λ start goes.
    subst (λ (f : Form). CutShort f start (g.K.Sink.written c.turns.out)) c.turns.invariant.form
    (c.stops_here.ensures start (map g.S.Source.left c.turns.srcs)
    (map g.S.Source.faults c.turns.srcs) (g.K.Sink.written c.turns.out)
    (c.turns.invariant.goes start goes)))

pub returns-in_err-reason-clause-later_read : goal.returns-in_err-reason-clause-later_read
returns-in_err-reason-clause-later_read g c =
    later-at c.turns.srcs c.in-Some.place c.index-srcs-place.result c.turn.new.src
    (omega (arith, c.in-Some.ensures.some.0, c.turns.invariant.count)) g.S.Source.faults
    (map g.S.Source.faults c.args.srcs.now) c.turn.ensures.later c.turns.invariant.later_read

pub returns-in_err-reason-clause-name : goal.returns-in_err-reason-clause-name
returns-in_err-reason-clause-name g c =
    keeps-at c.turns.srcs c.in-Some.place c.index-srcs-place.result c.turn.new.src
    (omega (arith, c.in-Some.ensures.some.0, c.turns.invariant.count)) g.S.Source.name
    (map g.S.Source.name c.args.srcs.now) c.turn.ensures.name c.turns.invariant.name

pub returns-in_err-reason-clause-found_at : goal.returns-in_err-reason-clause-found_at
returns-in_err-reason-clause-found_at g c =
    keeps-at c.turns.srcs c.in-Some.place c.index-srcs-place.result c.turn.new.src
    (omega (arith, c.in-Some.ensures.some.0, c.turns.invariant.count)) g.S.Source.found_at
    (map g.S.Source.found_at c.args.srcs.now) c.turn.ensures.found_at c.turns.invariant.found_at

pub returns-in-Some-2-clause-ok : goal.returns-in-Some-2-clause-ok
returns-in-Some-2-clause-ok g c = λ start goes.
    let xs = c.turns.srcs in
    let p = c.in-Some.place in
    let d = c.index-srcs-place.result in
    let l : p < length xs =
    omega (arith, c.in-Some.ensures.some.0, c.turns.invariant.count) in
    goes-at xs p d c.turn.new.src l g.S.Source.left g.S.Source.faults start
    (g.K.Sink.written c.turns.out) c.turn.new.self
    (c.in_ok-reason.ensures.turned start (map g.S.Source.left xs) (map g.S.Source.faults xs)
    (g.K.Sink.written c.turns.out) (read-at xs p d d l g.S.Source.left None)
    (read-at xs p d d l g.S.Source.faults 0) (c.turns.invariant.goes start goes)).0

pub returns-in-Some-2-clause-stops : goal.returns-in-Some-2-clause-stops
returns-in-Some-2-clause-stops g c =
    let r = c.requires.goes in
    let xs = c.turns.srcs in
    let p = c.in-Some.place in
    let d = c.index-srcs-place.result in
    let l : p < length xs =
    omega (arith, c.in-Some.ensures.some.0, c.turns.invariant.count) in
    let old = c.turns.invariant.goes r.0 r.1 in
    let t = c.in_ok-reason.ensures.turned r.0 (map g.S.Source.left xs) (map g.S.Source.faults xs)
    (g.K.Sink.written c.turns.out) (read-at xs p d d l g.S.Source.left None)
    (read-at xs p d d l g.S.Source.faults 0) old in (
      omega (arith, c.in-Some.ensures.some.0, old.count, t.0.count),
      subst (λ (o : Option Reason). StopsSo p o c.turn.new.self) c.in-Some-2.is t.1,
    )

pub returns-in-Some-2-clause-later_read : goal.returns-in-Some-2-clause-later_read
returns-in-Some-2-clause-later_read g c =
    later-at c.turns.srcs c.in-Some.place c.index-srcs-place.result c.turn.new.src
    (omega (arith, c.in-Some.ensures.some.0, c.turns.invariant.count)) g.S.Source.faults
    (map g.S.Source.faults c.args.srcs.now) c.turn.ensures.later c.turns.invariant.later_read

pub returns-in-Some-2-clause-name : goal.returns-in-Some-2-clause-name
returns-in-Some-2-clause-name g c =
    keeps-at c.turns.srcs c.in-Some.place c.index-srcs-place.result c.turn.new.src
    (omega (arith, c.in-Some.ensures.some.0, c.turns.invariant.count)) g.S.Source.name
    (map g.S.Source.name c.args.srcs.now) c.turn.ensures.name c.turns.invariant.name

pub returns-in-Some-2-clause-found_at : goal.returns-in-Some-2-clause-found_at
returns-in-Some-2-clause-found_at g c =
    keeps-at c.turns.srcs c.in-Some.place c.index-srcs-place.result c.turn.new.src
    (omega (arith, c.in-Some.ensures.some.0, c.turns.invariant.count)) g.S.Source.found_at
    (map g.S.Source.found_at c.args.srcs.now) c.turn.ensures.found_at c.turns.invariant.found_at

pub turns-preserved : goal.turns-preserved
turns-preserved g c =
    let r = c.requires.goes in
    let xs = c.turns.srcs in
    let p = c.in-Some.place in
    let d = c.index-srcs-place.result in
    let x = c.turn.new.src in
    let now = g.K.Sink.written c.turns.out in
    let l : p < length xs =
    omega (arith, c.in-Some.ensures.some.0, c.turns.invariant.count) in
    let old = c.turns.invariant.goes r.0 r.1 in
    let t = c.in_ok-reason.ensures.turned r.0 (map g.S.Source.left xs) (map g.S.Source.faults xs)
    now (read-at xs p d d l g.S.Source.left None) (read-at xs p d d l g.S.Source.faults 0) old in
    let same : length c.deliver_if_due.new.self.intakes.items
    ≡ length c.turn.new.self.intakes.items =
    search rules in
    let many = length-set xs p x in
    record {
      whole = c.deliver_if_due.ensures.whole;
      count = omega (arith, same, many, old.count, t.0.count, c.turns.invariant.count);
      form = c.deliver_if_due.ensures.form
          ∙ ap (λ (r : Results). form_of r) c.turn.ensures.results ∙ c.turns.invariant.form;
      goes = λ start goes. c.in_ok-deliver_if_due.ensures.ok start
          (map g.S.Source.left (set xs p x)) (map g.S.Source.faults (set xs p x))
          (goes-at xs p d x l g.S.Source.left g.S.Source.faults start now c.turn.new.self
          (c.in_ok-reason.ensures.turned start (map g.S.Source.left xs)
          (map g.S.Source.faults xs) now (read-at xs p d d l g.S.Source.left None)
          (read-at xs p d d l g.S.Source.faults 0) (c.turns.invariant.goes start goes)).0);
      later = search rules;
      later_read = later-at xs p d x l g.S.Source.faults (map g.S.Source.faults c.args.srcs.now)
          c.turn.ensures.later c.turns.invariant.later_read;
      name = keeps-at xs p d x l g.S.Source.name (map g.S.Source.name c.args.srcs.now)
          c.turn.ensures.name c.turns.invariant.name;
      found_at = keeps-at xs p d x l g.S.Source.found_at
          (map g.S.Source.found_at c.args.srcs.now) c.turn.ensures.found_at
          c.turns.invariant.found_at;
    }

pub returns-in_err-deliver_if_due-clause-err : goal.returns-in_err-deliver_if_due-clause-err
returns-in_err-deliver_if_due-clause-err g c =
    on_err c.from_residual-in_err-deliver_if_due.result (λ start goes.
    let xs = c.turns.srcs in
    let p = c.in-Some.place in
    let d = c.index-srcs-place.result in
    let x = c.turn.new.src in
    let now = g.K.Sink.written c.turns.out in
    let l : p < length xs =
    omega (arith, c.in-Some.ensures.some.0, c.turns.invariant.count) in
    subst (λ (f : Form). CutShort f start (g.K.Sink.written c.deliver_if_due.new.out))
    (ap (λ (r : Results). form_of r) c.turn.ensures.results ∙ c.turns.invariant.form)
    (c.in_err-deliver_if_due.ensures.err start (map g.S.Source.left (set xs p x))
    (map g.S.Source.faults (set xs p x))
    (goes-at xs p d x l g.S.Source.left g.S.Source.faults start now c.turn.new.self
    (c.in_ok-reason.ensures.turned start (map g.S.Source.left xs)
    (map g.S.Source.faults xs) now (read-at xs p d d l g.S.Source.left None)
    (read-at xs p d d l g.S.Source.faults 0) (c.turns.invariant.goes start goes)).0)))

pub returns-in_err-deliver_if_due-clause-later_read : goal.returns-in_err-deliver_if_due-clause-later_read
returns-in_err-deliver_if_due-clause-later_read g c =
    later-at c.turns.srcs c.in-Some.place c.index-srcs-place.result c.turn.new.src
    (omega (arith, c.in-Some.ensures.some.0, c.turns.invariant.count)) g.S.Source.faults
    (map g.S.Source.faults c.args.srcs.now) c.turn.ensures.later c.turns.invariant.later_read

pub returns-in_err-deliver_if_due-clause-name : goal.returns-in_err-deliver_if_due-clause-name
returns-in_err-deliver_if_due-clause-name g c =
    keeps-at c.turns.srcs c.in-Some.place c.index-srcs-place.result c.turn.new.src
    (omega (arith, c.in-Some.ensures.some.0, c.turns.invariant.count)) g.S.Source.name
    (map g.S.Source.name c.args.srcs.now) c.turn.ensures.name c.turns.invariant.name

pub returns-in_err-deliver_if_due-clause-found_at : goal.returns-in_err-deliver_if_due-clause-found_at
returns-in_err-deliver_if_due-clause-found_at g c =
    keeps-at c.turns.srcs c.in-Some.place c.index-srcs-place.result c.turn.new.src
    (omega (arith, c.in-Some.ensures.some.0, c.turns.invariant.count)) g.S.Source.found_at
    (map g.S.Source.found_at c.args.srcs.now) c.turn.ensures.found_at c.turns.invariant.found_at
