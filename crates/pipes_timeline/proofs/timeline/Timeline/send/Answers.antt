use Rattle.std.proofs.Common.{[], Option, refl, sym, subst, append-nil}
use Rattle.pipes_timeline.specs.declared.piece.Piece.{Piece}
use Rattle.pipes_timeline.specs.Queues.{Shifts}
use Rattle.pipes_timeline.proofs.Turns.{sends_none, sends_turn}
use Rattle.pipes_timeline.proofs.timeline.Timeline.send.Goals as goal

pub loop-piece-init : goal.loop-piece-init
loop-piece-init g c = record {
  sends = sends_none (g.R.Rule.rule c.args.self.now.rule) (g.R.Rule.tells c.args.self.now.rule)
      c.args.self.now c.args.out.now.items;
  rule = refl;
  grows = ([], sym (append-nil c.args.out.now.items));
}

pub loop-piece-preserved : goal.loop-piece-preserved
loop-piece-preserved g c =
    let s = sends_turn (g.R.Rule.rule c.args.self.now.rule) (g.R.Rule.tells c.args.self.now.rule)
    c.args.self.now c.loop-piece.self _ c.in-Some.piece c.args.out.now.items
    c.loop-piece.out.items c.send_piece.new.out.items c.loop-piece.invariant.sends
    (subst (λ (o : Option Piece). Shifts c.loop-piece.self.pieces c.shift.new.self o)
    c.in-Some.is c.in_ok-piece.ensures)
    c.in_ok-send_piece.ensures.sent refl refl refl in
    record {
      sends = s;
      rule = c.loop-piece.invariant.rule;
      grows = (s.more, s.appended);
    }
