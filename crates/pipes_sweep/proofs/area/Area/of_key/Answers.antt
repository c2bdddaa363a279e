use Rattle.std.proofs.Common.{◌∙◌}
use Rattle.pipes_sweep.proofs.Indices.{key_there, key_elems}
use Rattle.pipes_sweep.proofs.area.Area.of_key.Goals as goal

pub new-requires : goal.new-requires
new-requires c =
    key_there _ _ _ _ c.args.key.now _ c.self.invariant c.numbers.ensures

pub returns : goal.returns
returns c =
    c.new.ensures
    ∙ key_elems c.args.self.now _ _ _ _ c.args.key.now _ c.self.view_is c.self.invariant
    c.numbers.ensures
