use Rattle.pipes_minus.specs.MinusLaw.{held-open}
use Rattle.pipes_minus.proofs.minus.Minus.holds_what_lives.Goals as goal

pub returns : goal.returns
returns c = λ taken sent s. held-open c.args.self.now taken sent s
