use Rattle.std.proofs.Common.{◌≡◌, ◌-◌, ◌<◌, ℕ}
use Rattle.pipes_box.specs.Boxes.{IsSound, TakesAll}
use Rattle.pipes_box.specs.Rounds.{TopKnown}
use Rattle.pipes_box.specs.Backlog.{backlog}
use Rattle.pipes_box.proofs.plan_box.PlanBox.+work_at.Given as goal

abbrev pub invariant-rounds : goal.invariant-rounds
invariant-rounds g l = record {
  sound : IsSound l.self;
  known : TopKnown l.self;
  works : TakesAll l.initial.self l.self l.initial.out.items l.out.items;
  same : (j : ℕ) → j < l.place → backlog l.self j ≡ backlog l.initial.self j;
}

abbrev pub decreases-rounds : goal.decreases-rounds
decreases-rounds g l = backlog l.self l.place

abbrev pub decreases-work_at : goal.decreases-work_at
decreases-work_at g l = 64 - l.place
