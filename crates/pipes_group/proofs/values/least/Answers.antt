use Rattle.std.proofs.Common.{◌∙◌}
use Rattle.pipes_group.proofs.Counted.{copied_as, least_is, no_least, no_entries}
use Rattle.pipes_group.proofs.values.least.Goals as goal

pub returns-in-Some : goal.returns-in-Some
returns-in-Some c =
    copied_as c.copy.result c.copy.ensures (λ v is col rows h.
    is ∙ least_is c.args.values.now col rows c.in-Some.value.now c.in-Some.field-0-1.now
    c.in-Some.ensures.value c.in-Some.ensures.least h)

pub returns-in-None : goal.returns-in-None
returns-in-None c = λ col rows h.
    no_least c.args.values.now col rows (no_entries _ c.in-None.ensures.variant.1) h
