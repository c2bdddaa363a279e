use Rattle.std.proofs.Common.{◌≡◌, map, take}
use Rattle.pipes_query.proofs.query.Query.schemas.Given as goal

abbrev pub invariant-loop-source : goal.invariant-loop-source
invariant-loop-source l = l.schemas.items ≡ map (λ source. source.schema)
    (take l.source-index l.self.sources)
