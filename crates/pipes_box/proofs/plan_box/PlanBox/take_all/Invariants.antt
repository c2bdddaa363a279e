use Rattle.std.proofs.Common.{◌≡◌, ◌+◌, ◌≤◌, vec_len, vec_capacity}
use Rattle.pipes_link.specs.Ends.{ready}
use Rattle.pipes_box.specs.Boxes.{IsSound, TakesAll}
use Rattle.pipes_box.specs.Rounds.{TopKnown}
use Rattle.pipes_box.proofs.plan_box.PlanBox.take_all.Given as goal

abbrev pub invariant-loop-message : goal.invariant-loop-message
invariant-loop-message l = record {
  sound : IsSound l.self;
  took : TakesAll l.initial.self l.self l.initial.out.items l.out.items;
  nodes : l.self.nodes ≡ l.initial.self.nodes;
  known : TopKnown l.initial.self → TopKnown l.self;
  going : l.self.failed ≡ l.initial.self.failed;
  room : vec_len l.out + ready l.self.top ≤ vec_capacity l.out;
}

abbrev pub decreases-loop-message : goal.decreases-loop-message
decreases-loop-message l = ready l.self.top
