use Rattle.std.proofs.Common.{List, refl, subst}
use Rattle.pipes_live.specs.declared.source.Source.{Source}
use Rattle.pipes_live.specs.Deeds.{OpensIn}
use Rattle.pipes_live.proofs.Opening.{begins-live}
use Rattle.pipes_live.proofs.live.Live.begin.Goals as goal

pub returns-clause-begins : goal.returns-clause-begins
returns-clause-begins g c =
    begins-live c.args.self.now c.change.new.self _ c.args.next c.args.split
    c.change.ensures.begins
    (subst (λ (l : List Source). OpensIn c.change.new.self.state c.open.new.self l c.args.split)
    c.as_slice.ensures.value c.in_ok-open.ensures.opens)
    c.change.ensures.sources refl c.change.ensures.split
