use Rattle.std.proofs.Common.{refl}
use Rattle.pipes_flat.specs.Maps.{map_takes}
use Rattle.pipes_flat.proofs.map.MapOperator.take.Goals as goal

pub returns-in-Ok-clause-takes : goal.returns-in-Ok-clause-takes
returns-in-Ok-clause-takes c = map_takes c.args.self.now _ c.args._port c.args.message _ _ refl
    c.requires c.if-self.false c.step.ensures.follows c.in-Ok.ensures.sends
