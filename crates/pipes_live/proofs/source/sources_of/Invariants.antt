use Rattle.std.proofs.Common.{take}
use Rattle.pipes_stream.specs.Lawful.{no_messages}
use Rattle.pipes_live.specs.Lives.{AreSources}
use Rattle.pipes_live.proofs.source.sources_of.Given as goal

abbrev pub invariant-loop-source : goal.invariant-loop-source
invariant-loop-source l = record {
  are : AreSources (take l.source l.schemas) no_messages l.sources.items;
}
