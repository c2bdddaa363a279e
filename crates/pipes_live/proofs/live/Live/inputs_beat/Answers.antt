use Rattle.std.proofs.Common.{◌∙◌, List, length, ap, sym, subst}
use Rattle.pipes_stream.specs.Lawful.{least}
use Rattle.pipes_live.specs.declared.source.Source.{Source}
use Rattle.pipes_live.specs.Lives.{AreSources}
use Rattle.pipes_live.proofs.live.Live.inputs_beat.Goals as goal

pub returns : goal.returns
returns c = λ schemas query plan earlier rows by_source entries s.
    c.least_beat.ensures schemas by_source
    (subst (AreSources schemas by_source) (sym c.as_slice.ensures.value) s.sources)
    ∙ ap (λ (l : List Source). least (length l) by_source) c.as_slice.ensures.value
