use Rattle.std.proofs.Common.{◌≡◌, ◌≤◌, ◌++◌, ℕ, List, length, take, vec_len, sym, ◌∙◌, ap, subst}
use Rattle.std.proofs.Common.{arith, length-append}
use Rattle.std.specs.BTreeMap.{get}
use Rattle.std.proofs.lemmas.List.{take-append-le}
use Rattle.pipes_output.specs.Periods.{Period}
use Rattle.pipes_output.specs.NormalText.{period_line}
use Rattle.pipes_settled.specs.Standing.{at_cmp}
use Rattle.pipes_settled.specs.Moves.{IsLimit}
use Rattle.pipes_settled.proofs.Stepping.{gives-next, gives-same, waits-past}
use Rattle.pipes_settled.proofs.pieces.Pieces.give.Goals as goal

pub closed-preserved : goal.closed-preserved
closed-preserved c =
    let i = c.closed.invariant in
    let r = c.in-Some in
    let line : c.print.new.out.items ≡ c.closed.out.items ++ period_line c.new.result =
    c.in_ok-print.ensures.ok in
    let own : c.new.result ≡ record {
      start = r.start;
      end = r.end;
      copies = r.copies;
      tuple =
          r.tuple;
    } = c.new.ensures in
    let longer : vec_len c.args.out.now ≤ vec_len c.closed.out = i.longer in
    record {
      longer = (let o = c.closed.out.ok in let n = c.print.new.out.ok in let l = ap
          (λ (bs : List ℕ). length bs) line in omega (
            arith,
            longer,
            o,
            n,
            l,
            length-append
                c.closed.out.items (period_line c.new.result),
          ));
      kept = ap (take (vec_len c.args.out.now)) line ∙ take-append-le (vec_len c.args.out.now)
          c.closed.out.items (period_line c.new.result) (omega (arith, longer, c.closed.out.ok))
          ∙ i.kept;
      limit = subst (λ m. IsLimit c.limit-limit.result (get at_cmp m)) (sym r.ensures.opens)
          i.limit;
      gives = λ f h given s. gives-next c.limit-limit.result f h given c.args.out.now.items
          c.closed.out.items c.print.new.out.items c.closed.self c.pop_up_to.new.self r.start r.end
          r.copies r.tuple (i.gives f h given s) (line ∙ ap (λ (p : Period). c.closed.out.items
          ++ period_line p) own) r.ensures.levels r.ensures.opens r.ensures.first r.ensures.limit
          i.limit;
    }

pub returns-clause-gives : goal.returns-clause-gives
returns-clause-gives c = λ f h given s.
    (let e = c.in_default.ensures in
    gives-same f h given c.args.out.now.items c.closed.out.items c.closed.self c.pop_up_to.new.self
    e.levels e.opens e.same (c.closed.invariant.gives f h given s))

pub returns-clause-waits : goal.returns-clause-waits
returns-clause-waits c =
    let e = c.in_default.ensures in
    waits-past c.limit-limit.result c.pop_up_to.new.self (subst (λ m. IsLimit c.limit-limit.result
    (get at_cmp m)) (sym e.opens) c.closed.invariant.limit) e.none
