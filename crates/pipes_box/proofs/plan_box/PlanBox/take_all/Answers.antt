use Rattle.std.proofs.Common.{refl, ◌∙◌, arith}
use Rattle.pipes_box.proofs.WorkedOff.{takes-none, takes-then, takes-one}
use Rattle.pipes_box.proofs.plan_box.PlanBox.take_all.Goals as goal

pub loop-message-init : goal.loop-message-init
loop-message-init c = record {
  sound = c.requires;
  took = takes-none c.args.self.now c.args.self.now c.reserve.new.self.items
      (λ schemas plan given got s. s);
  nodes = refl;
  known = λ k. k;
  going = refl;
  room = omega (arith, c.in_ok-reserve.ensures.ok, c.known_count.ensures.answer);
}

pub push_reserved-requires : goal.push_reserved-requires
push_reserved-requires c =
    omega (arith, c.loop-message.invariant.room, c.in-Some.ensures.fewer)

pub loop-message-preserved : goal.loop-message-preserved
loop-message-preserved c =
    record {
      sound = c.take.ensures.sound;
      took = takes-then c.args.self.now c.loop-message.self c.take.new.self
          c.reserve.new.self.items c.loop-message.out.items c.push_reserved.new.self.items
          c.loop-message.invariant.took
          (takes-one c.loop-message.self c.take.new.self c.loop-message.out.items
          c.push_reserved.new.self.items c.in-Some.message c.in-Some.ensures.took
          c.push_reserved.ensures.items);
      nodes = c.take.ensures.nodes ∙ c.loop-message.invariant.nodes;
      known = λ k. c.take.ensures.known (c.loop-message.invariant.known k);
      going = c.take.ensures.going ∙ c.loop-message.invariant.going;
      room = omega (
        arith,
        c.loop-message.invariant.room,
        c.in-Some.ensures.fewer,
        c.push_reserved.ensures.len,
        c.push_reserved.ensures.capacity,
      );
    }
