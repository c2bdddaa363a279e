use Rattle.std.proofs.Common.{◌≤◌, ℕ}
use Rattle.pipes_answer.proofs.Taken.{released-more}
use Rattle.pipes_answer.proofs.source.release_due.Goals as goal

pub due-preserved : goal.due-preserved
due-preserved c =
    released-more (λ (stamp : ℕ). stamp ≤ c.args.floor) c.args.waiting.now c.due.waiting
    c.take_due.new.self c.args.rows.now c.due.rows c.take.new.rows c.in-Some.item
    c.due.invariant c.in-Some.ensures.due.0 c.in-Some.ensures.due.1 c.in_ok-take.ensures
