use Rattle.std.proofs.Common.{◌≡◌, take}
use Rattle.pipes_query.specs.Queries.{names_of}
use Rattle.pipes_query.proofs.query.names_of.Given as goal

abbrev pub invariant-loop-source : goal.invariant-loop-source
invariant-loop-source l = l.names.items ≡ names_of (take l.source-index l.sources)
