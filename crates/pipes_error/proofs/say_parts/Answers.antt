use Rattle.pipes_error.proofs.Saying.{says}
use Rattle.pipes_error.proofs.say_parts.Goals as goal

pub returns : goal.returns
returns g c = says c.write_line.result _ _ _ _ _ c.write_line.ensures.ok c.write_line.ensures.prefix
    c.write_line.ensures.cause
