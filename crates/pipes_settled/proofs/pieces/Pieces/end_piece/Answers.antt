use Rattle.std.proofs.Common.{Option, Some, None, sym, subst}
use Rattle.std.specs.BTreeMap.{get}
use Rattle.pipes_settled.specs.declared.pieces.Level.{Level}
use Rattle.pipes_settled.specs.Standing.{at_cmp, piece_cmp}
use Rattle.pipes_settled.specs.Moves.{EndsPiece, IsPut}
use Rattle.pipes_settled.proofs.Moving.{Tuple}
use Rattle.pipes_settled.proofs.Tables.{exact-at, exact-piece, put-from}
use Rattle.pipes_settled.proofs.pieces.Pieces.end_piece.Goals as goal

pub returns-in_ok-insert-in-Some-clause-ends : goal.returns-in_ok-insert-in-Some-clause-ends
returns-in_ok-insert-in-Some-clause-ends c =
    let level = c.in-Some.level in
    let tuple = c.in_ok-copy-in-Some.field-0 in
    let gone = put-from at_cmp exact-at c.args.self.now.opens c.remove.new.self (level.since, tuple)
    None c.remove.ensures.updates in
    let put = put-from piece_cmp exact-piece c.args.self.now.closed c.insert.new.self
    (level.since, c.args.at, tuple) _ c.in_ok-insert-in-Some.ensures.updates in
    subst (λ (l : Option Level). EndsPiece l c.args.at c.args.tuple.now
    (get at_cmp c.args.self.now.opens) (get at_cmp c.remove.new.self)
    (get piece_cmp c.args.self.now.closed) (get piece_cmp c.insert.new.self)) (sym c.in-Some.is)
    (subst (λ (v : Tuple). IsPut (get at_cmp c.args.self.now.opens) (get at_cmp c.remove.new.self)
    (level.since, v) None × IsPut (get piece_cmp c.args.self.now.closed)
    (get piece_cmp c.insert.new.self) (level.since, c.args.at, v) (Some level.copies))
    c.in_ok-copy-in-Some.ensures (gone, put))
