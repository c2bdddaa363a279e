-- What the operators of a plan are there for and stand for, by kind: each kind has one line in each
-- definition.
use Rattle.std.specs.Prelude.{ℕ, ◌+◌, Bool, List, length}
use Rattle.pipes_stream.specs.declared.message.Message.{Message}
use Rattle.pipes_stream.specs.Lawful.{Lists, Task, Lawful}
use Rattle.pipes_flat.specs.Tasks.{filter_task, map_task, union_task}
use Rattle.pipes_flat.specs.Filters.{FilterStands, filter_lawful}
use Rattle.pipes_flat.specs.Maps.{MapStands, map_lawful}
use Rattle.pipes_flat.specs.Unions.{UnionStands}
use Rattle.pipes_flat.specs.UnionLaw.{union_lawful}
use Rattle.pipes_pair.specs.Tasks.{join_task}
use Rattle.pipes_pair.specs.Joins.{JoinStands}
use Rattle.pipes_pair.specs.JoinLaw.{join_lawful}
use Rattle.pipes_group.specs.Tasks.{distinct_task, group_task}
use Rattle.pipes_group.specs.Distincts.{DistinctStands}
use Rattle.pipes_group.specs.DistinctLaw.{distinct_lawful}
use Rattle.pipes_group.specs.Grouped.{GroupStands}
use Rattle.pipes_group.specs.GroupedLaw.{group_lawful}
use Rattle.pipes_minus.specs.Tasks.{minus_task}
use Rattle.pipes_minus.specs.Minuses.{MinusStands}
use Rattle.pipes_minus.specs.MinusLaw.{minus_lawful}
use Rattle.pipes_node.specs.declared.operator.PlanOperator.{PlanOperator}
use Rattle.pipes_node.specs.declared.operator.PlanOperator.TheVariants as operator

abbrev pub task_of : PlanOperator → Task
task_of (operator.Filter f) = filter_task f.condition.expr f.condition.schema
task_of (operator.Map m) = map_task m.projection.exprs m.projection.schema
task_of (operator.Union u) = union_task u.schema
task_of (operator.Join j) =
    join_task j.matching.pairs j.matching.condition j.matching.left j.matching.right
task_of (operator.Distinct d) = distinct_task d.schema
task_of (operator.Group g) = group_task g.line.rule.columns g.line.rule.aggs g.schema
task_of (operator.Minus m) = minus_task m.schema

abbrev pub StandsFor : PlanOperator → Lists → List Message → Type 0
StandsFor (operator.Filter f) = FilterStands f
StandsFor (operator.Map m) = MapStands m
StandsFor (operator.Union u) = UnionStands u
StandsFor (operator.Join j) = JoinStands j
StandsFor (operator.Distinct d) = DistinctStands d
StandsFor (operator.Group g) = GroupStands g
StandsFor (operator.Minus m) = MinusStands m

abbrev pub has_failed : PlanOperator → Bool
has_failed (operator.Filter f) = f.failed
has_failed (operator.Map m) = m.failed
has_failed (operator.Union u) = u.failed
has_failed (operator.Join j) = j.failed
has_failed (operator.Distinct d) = d.failed
has_failed (operator.Group g) = g.failed
has_failed (operator.Minus m) = m.failed

abbrev pub held_by : PlanOperator → ℕ
held_by (operator.Filter f) = 0
held_by (operator.Map m) = 0
held_by (operator.Union u) = length u.hold
held_by (operator.Join j) = length j.left.area.elems + length j.right.area.elems
held_by (operator.Distinct d) = length d.coverage.table.entries
held_by (operator.Group g) = length g.line.ends
held_by (operator.Minus m) = length m.line.ends + length m.waits

pub lawful_of : (op : PlanOperator) (taken : Lists) (sent : List Message) → StandsFor op taken sent
    → Lawful (task_of op) taken sent (held_by op)
lawful_of (operator.Filter f) taken sent s = filter_lawful f taken sent s
lawful_of (operator.Map m) taken sent s = map_lawful m taken sent s
lawful_of (operator.Union u) taken sent s = union_lawful u taken sent s
lawful_of (operator.Join j) taken sent s = join_lawful j taken sent s
lawful_of (operator.Distinct d) taken sent s = distinct_lawful d taken sent s
lawful_of (operator.Group g) taken sent s = group_lawful g taken sent s
lawful_of (operator.Minus m) taken sent s = minus_lawful m taken sent s
