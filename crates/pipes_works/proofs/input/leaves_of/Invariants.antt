use Rattle.std.proofs.Common.{◌≡◌, List, map, take}
use Rattle.pipes_tuple.specs.declared.value.Kind.{Kind}
use Rattle.pipes_stream.specs.declared.message.Message.{Message}
use Rattle.pipes_stream.specs.Lawful.{Lists}
use Rattle.pipes_plan.specs.declared.plan.Plan.{Plan}
use Rattle.pipes_box.specs.Shapes.{shape_of, sources_of}
use Rattle.pipes_box.specs.Boxes.{BoxStands}
use Rattle.pipes_works.specs.Sources.{leaves_from}
use Rattle.pipes_works.proofs.input.leaves_of.Given as goal

abbrev pub invariant-loop-leaf : goal.invariant-loop-leaf
invariant-loop-leaf l = record {
  found : (schemas : List (List Kind)) (plan : Plan) (given : Lists) (got : List Message)
      → BoxStands l.plan_box schemas plan given got
      → l.leaves.items ≡ leaves_from l.source 0 (take l.leaf (sources_of (shape_of schemas plan)));
}
