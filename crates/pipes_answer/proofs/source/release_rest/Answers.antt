use Rattle.std.proofs.Common.{refl, ℕ}
use Rattle.std.specs.Prelude.{⊤}
use Rattle.pipes_answer.proofs.Taken.{released-none, released-more}
use Rattle.pipes_answer.proofs.source.release_rest.Goals as goal

pub rest-init : goal.rest-init
rest-init c = released-none (λ (stamp : ℕ). ⊤) c.args.waiting.now c.args.waiting.now c.args.rows.now
    c.args.rows.now refl refl

pub rest-preserved : goal.rest-preserved
rest-preserved c =
    released-more (λ (stamp : ℕ). ⊤) c.args.waiting.now c.rest.waiting c.take.new.self
    c.args.rows.now c.rest.rows c.take-in-Some.new.rows c.in-Some.item
    c.rest.invariant c.in-Some.ensures.first tt c.in_ok-take.ensures
