use Rattle.std.proofs.Common.{◌∙◌}
use Rattle.pipes_node.specs.declared.operator.PlanOperator.TheVariants as operator
use Rattle.pipes_box.proofs.PerKind.{same-group}
use Rattle.pipes_box.proofs.build.group_over.Goals as goal

pub returns-clause-adds : goal.returns-clause-adds
returns-clause-adds c = record {
  operator = operator.Group c.in_ok-group.group;
  adds = c.in_ok-whole.ensures.nodes;
  task_is = c.in_ok-group.ensures.task
      ∙ same-group _ _ _ _ _ _ c.in_ok-columns.ensures c.in_ok-aggs.ensures c.in_ok-below.ensures;
  stands = c.in_ok-group.ensures.stands;
  root = c.in_ok-whole.ensures.root;
}
