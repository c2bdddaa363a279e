use Rattle.std.proofs.Common.{◌≡◌, ◌≤◌, ◌<◌, ℕ, refl, subst, arith}
use Rattle.std.specs.BTreeMap.{get}
use Rattle.pipes_time.specs.Interval.{horizon}
use Rattle.pipes_settled.specs.Standing.{at_cmp}
use Rattle.pipes_settled.specs.Moves.{IsAdded}
use Rattle.pipes_settled.proofs.Moving.{Tuple}
use Rattle.pipes_settled.proofs.Stepping.{stands-more}
use Rattle.pipes_settled.proofs.settled.Settled.add.Goals as goal

pub returns-clause-adds : goal.returns-clause-adds
returns-clause-adds c = λ elems h text s late.
    (let e = c.args.elem in
    let start : c.start.result ≡ e.span.start = c.start.ensures.value in
    let end : c.end.result ≡ e.span.end = c.end.ensures.value in
    let low = c.start.ensures.below_end in
    let high = c.end.ensures.bound in
    let proper : e.span.start < e.span.end = omega (arith, low, start) in
    let most : e.span.end ≤ horizon = omega (arith, high, end) in
    let begun = subst (λ (n : ℕ). IsAdded 1 0 (n, e.tuple) (get at_cmp c.args.self.now.changes)
    (get at_cmp c.begin.new.changes)) start (subst (λ (v : Tuple). IsAdded 1 0
    (c.start.result, v) (get at_cmp c.args.self.now.changes) (get at_cmp c.begin.new.changes))
    c.in_ok-other.ensures c.in_ok-begin.ensures) in
    let done = subst (λ (n : ℕ). IsAdded 0 1 (n, e.tuple) (get at_cmp c.begin.new.changes)
    (get at_cmp c.end-2.new.changes)) end c.in_ok-end.ensures in
    stands-more elems h text c.args.self.now _ e (get at_cmp c.begin.new.changes) s (proper, most)
    late refl refl begun done)
