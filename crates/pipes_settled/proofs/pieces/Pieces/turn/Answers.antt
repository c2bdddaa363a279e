use Rattle.std.proofs.Common.{◌≡◌, Option, ◌∙◌, sym, subst, arith, ap}
use Rattle.std.specs.BTreeMap.{get}
use Rattle.std.specs.HashMap as hash
use Rattle.pipes_tuple.specs.Equal.{tuple_eq}
use Rattle.pipes_settled.specs.declared.pieces.Level.{Level}
use Rattle.pipes_settled.specs.Standing.{at_cmp, piece_cmp}
use Rattle.pipes_settled.specs.Moves.{copies_of, EndsPiece}
use Rattle.pipes_settled.proofs.Stepping.{turn-stays, turn-turns}
use Rattle.pipes_settled.proofs.pieces.Pieces.turn.Goals as goal

pub returns-then-now-copies : goal.returns-then-now-copies
returns-then-now-copies c =
    let copies : c.copies_of-copies.result ≡ copies_of (hash.get tuple_eq c.args.self.now.levels
    c.args.tuple) = c.copies_of-copies.ensures ∙ ap copies_of c.level_of-level.ensures in
    let same = c.if-now-copies.true in
    let most = c.in-Some.ensures in
    let now = c.in-Some-checked_sub.ensures in
    turn-stays c.args.self.now c.args.at c.args.tuple c.args.change.begins c.args.change.ends
    c.in-Some-checked_sub.now (omega (arith, copies, most, now)) (same ∙ copies)

pub returns : goal.returns
returns c =
    let copies : c.copies_of-copies.result ≡ copies_of (hash.get tuple_eq c.args.self.now.levels
    c.args.tuple) = c.copies_of-copies.ensures ∙ ap copies_of c.level_of-level.ensures in
    let most = c.in-Some.ensures in
    let now = c.in-Some-checked_sub.ensures in
    let ends = subst (λ (l : Option Level). EndsPiece l c.args.at c.args.tuple
    (get at_cmp c.args.self.now.opens) (get at_cmp c.end_piece.new.self.opens)
    (get piece_cmp c.args.self.now.closed) (get piece_cmp c.end_piece.new.self.closed))
    c.level_of-level.ensures c.in_ok-end_piece.ensures.ends in
    turn-turns c.args.self.now c.end_piece.new.self c.begin_piece.new.self c.args.at c.args.tuple
    c.args.change.begins c.args.change.ends c.in-Some-checked_sub.now
    (omega (arith, copies, most, now))
    (λ e. c.if-now-copies.false (e ∙ sym copies)) c.in_ok-end_piece.ensures.levels ends
    c.in_ok-begin_piece.ensures.closed c.in_ok-begin_piece.ensures.begins
