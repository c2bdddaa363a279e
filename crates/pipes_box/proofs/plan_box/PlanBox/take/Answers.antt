use Rattle.std.proofs.Common.{refl}
use Rattle.pipes_box.proofs.Rounds.{took-sound}
use Rattle.pipes_box.proofs.plan_box.PlanBox.take.Goals as goal

pub returns-clause-sound : goal.returns-clause-sound
returns-clause-sound c =
    took-sound c.args.self.now _ c.in_ok-message.message (record {
      nodes = refl;
      leaves = refl;
      failed = refl;
      same_link = c.take_known.ensures.same_link;
      taken_more = c.in_ok-message.ensures.took;
      known_less = c.in_ok-message.ensures.oldest;
      ended = c.ends-self.ensures;
    }) c.requires
