use Rattle.std.proofs.Common.{refl, ◌∙◌}
use Rattle.pipes_semantics.specs.Answer.{schemas_of}
use Rattle.pipes_inline.proofs.Finishing.{over-is}
use Rattle.pipes_inline.proofs.ending.work_to_end.Goals as goal

pub returns-clause-over : goal.returns-clause-over
returns-clause-over g c = λ start now taken e.
    over-is start now taken c.finish_all.new.underway _
    (c.in_ok-finish_all.ensures.ends start now taken e) c.in_ok-work_off.ensures.works refl
    (λ sent got s. c.answers.ensures (schemas_of start.query) start.query.plan sent got s)
    (λ sent got s. c.keeps_up.ensures.prompt (schemas_of start.query) start.query.plan sent got s)
