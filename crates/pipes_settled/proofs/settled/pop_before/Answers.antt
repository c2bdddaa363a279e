use Rattle.std.proofs.Common.{◌≤◌, None, refl, sym, subst, arith}
use Rattle.std.specs.Prelude.{IsSome}
use Rattle.pipes_settled.specs.Standing.{at_cmp}
use Rattle.pipes_settled.proofs.Tables.{exact-at, least-at, put-from}
use Rattle.pipes_settled.proofs.settled.pop_before.Goals as goal

pub returns-then-h-first-clause-none : goal.returns-then-h-first-clause-none
returns-then-h-first-clause-none c t v n h =
    let l : c.in_ok-first.first.now.0 ≤ t = least-at c.in_ok-first.first.now (t, v)
    (c.in_ok-first.ensures.least (t, v) (subst IsSome (sym h) refl)) in
    let b = c.if-h-first.true in
    omega (arith, b, l)

pub returns-clause-first : goal.returns-clause-first
returns-clause-first c =
    let p = c.in_ok-at in
    let old = c.args.changes.now in
    let new = c.pop_first.new.self in
    record {
      first = p.ensures.value;
      gone = put-from at_cmp exact-at old new (p.at, p.tuple) None p.ensures.updates;
      least = λ t v n h. least-at (p.at, p.tuple) (t, v) (p.ensures.least (t, v)
          (subst IsSome (sym h) refl));
    }
