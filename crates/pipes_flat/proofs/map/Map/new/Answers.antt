use Rattle.std.proofs.Common.{ap, refl}
use Rattle.pipes_flat.specs.Typed.{ExprsOver}
use Rattle.pipes_flat.specs.Tasks.{map_task}
use Rattle.pipes_flat.specs.Maps.{map_new}
use Rattle.pipes_flat.proofs.Typing.{exprs_have_width, map_has_kinds}
use Rattle.pipes_flat.proofs.map.Map.new.Goals as goal

pub returns-clause-task : goal.returns-clause-task
returns-clause-task c = ap (λ (p : ExprsOver). map_task p.exprs p.schema) c.new-projection.ensures

pub returns-clause-stands : goal.returns-clause-stands
returns-clause-stands c = map_new _ c.args.exprs c.args.schema c.requires.schema
    (map_has_kinds c.args.exprs c.args.schema c.requires) c.new-projection.ensures
    c.new-watch.ensures refl

pub new-projection-requires-clause-width : goal.new-projection-requires-clause-width
new-projection-requires-clause-width c = exprs_have_width c.args.exprs c.args.schema c.requires
