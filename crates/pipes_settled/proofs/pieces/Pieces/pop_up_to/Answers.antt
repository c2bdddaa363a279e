use Rattle.std.proofs.Common.{None, refl, sym, ◌∙◌, subst}
use Rattle.std.specs.Prelude.{IsSome}
use Rattle.pipes_settled.specs.Standing.{piece_cmp}
use Rattle.pipes_settled.proofs.Tables.{exact-piece, past-more, least-piece, less-from}
use Rattle.pipes_settled.proofs.Tables.{piece-period, put-from}
use Rattle.pipes_settled.proofs.pieces.Pieces.pop_up_to.Goals as goal

pub returns-then-is_past-clause-none : goal.returns-then-is_past-clause-none
returns-then-is_past-clause-none c s e n v h =
    past-more c.args.limit c.in_ok-first.first.now.0 s (least-piece c.in_ok-first.first.now
    (s, e, v) (c.in_ok-first.ensures.least (s, e, v) (subst IsSome (sym h) refl)))
    (sym c.is_past.ensures ∙ c.if-is_past.true)

pub returns-clause-first : goal.returns-clause-first
returns-clause-first c =
    let p = c.in_ok-start in
    let old = c.args.self.now.closed in
    let new = c.pop_first.new.self in
    record {
      first = p.ensures.value;
      gone = put-from piece_cmp exact-piece old new (p.start, p.end, p.tuple) None
          p.ensures.updates;
      least = λ b g d w h. piece-period p.start p.end p.copies b g d p.tuple w
          (less-from piece_cmp exact-piece old new (p.start, p.end, p.tuple) p.ensures.updates
          p.ensures.least (b, g, w) d h);
    }
