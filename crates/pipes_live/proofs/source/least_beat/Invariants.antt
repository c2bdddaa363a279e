use Rattle.std.proofs.Common.{◌≡◌, List}
use Rattle.pipes_tuple.specs.declared.value.Kind.{Kind}
use Rattle.pipes_stream.specs.Lawful.{Lists, least}
use Rattle.pipes_live.specs.Lives.{AreSources}
use Rattle.pipes_live.proofs.source.least_beat.Given as goal

abbrev pub invariant-loop-source : goal.invariant-loop-source
invariant-loop-source l = record {
  least : (schemas : List (List Kind)) (by_source : Lists)
      → AreSources schemas by_source l.sources → l.least ≡ least l.source by_source;
}
