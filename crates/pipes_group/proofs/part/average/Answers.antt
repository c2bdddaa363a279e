use Rattle.std.proofs.Common.{◌∙◌, rules, arith, FitsSigned}
use Rattle.std.specs.Int.{w64, w128}
use Rattle.std.proofs.lemmas.Int.{to_z-of_z}
use Rattle.pipes_group.proofs.PartTurns.{average_of}
use Rattle.pipes_group.proofs.part.average.Goals as goal

pub returns : goal.returns
returns c = λ col rows fit is many.
    let whole : FitsSigned w128 c.args.sum = search rules in
    let within : FitsSigned w64 c.clamped.result = search rules in
    to_z-of_z w64 c.clamped.result within ∙ c.clamped.ensures
    ∙ average_of c.args.count c.args.sum c.div_euclid.result (omega arith) (omega arith) whole
    c.div_euclid.ensures col rows fit is many
