use Rattle.std.proofs.Common.{◌≡◌, List}
use Rattle.pipes_tuple.specs.declared.value.Kind.{Kind}
use Rattle.pipes_stream.specs.declared.message.Message.{Message}
use Rattle.pipes_stream.specs.Lawful.{Lists, least}
use Rattle.pipes_plan.specs.declared.plan.Plan.{Plan}
use Rattle.pipes_works.specs.Standing.{WorksStand}
use Rattle.pipes_works.proofs.works.Works.inputs_beat.Given as goal

abbrev pub invariant-loop-source : goal.invariant-loop-source
invariant-loop-source l = record {
  least : (schemas : List (List Kind)) (plan : Plan) (by_source : Lists) (got : List Message)
      → WorksStand l.self schemas plan by_source got → l.least ≡ least l.source by_source;
}
