use Rattle.std.proofs.Common.{[]}
use Rattle.pipes_stream.specs.Lawful.{no_messages}
use Rattle.pipes_works.proofs.NewInputs.{new-stands}
use Rattle.pipes_works.proofs.works.Works.new.Goals as goal

pub returns-clause-stands : goal.returns-clause-stands
returns-clause-stands c =
    new-stands _ c.args.schemas.now c.args.plan.now c.in_ok-plan_box.ensures.stands
    c.in_ok-inputs.ensures

pub returns-clause-whole : goal.returns-clause-whole
returns-clause-whole c = record {
  sound = c.in_ok-plan_box.ensures.sound;
  some_workers = c.requires.some;
  most_workers = c.requires.most;
  stands = λ _. record {
    schemas = c.args.schemas.now;
    plan = c.args.plan.now;
    by_source = no_messages;
    got = [];
    stands = new-stands _ c.args.schemas.now c.args.plan.now c.in_ok-plan_box.ensures.stands
        c.in_ok-inputs.ensures;
  };
}
