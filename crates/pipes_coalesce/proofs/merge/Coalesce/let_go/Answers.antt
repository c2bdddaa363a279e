use Rattle.std.proofs.Common.{rules}
use Rattle.pipes_coalesce.proofs.Sending.{lone-goes}
use Rattle.pipes_coalesce.proofs.merge.Coalesce.let_go.Goals as goal

pub returns-in_ok-send_all : goal.returns-in_ok-send_all
returns-in_ok-send_all c =
    let sent = c.in_ok-send_all.ensures.sent in
    record {
      moves =
          lone-goes c.args.self.now _ sent.sent c.args.out.now.items c.send_all.new.out.items
          (search rules) c.in_ok-send_all.ensures.empty (search rules) sent.weights
          sent.appended;
      gone = λ _. c.in_ok-send_all.ensures.empty;
    }
