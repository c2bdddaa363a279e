use Rattle.std.proofs.Common.{◌∙◌}
use Rattle.pipes_node.specs.declared.operator.PlanOperator.TheVariants as operator
use Rattle.pipes_box.proofs.PerKind.{same-join}
use Rattle.pipes_box.proofs.build.join_over.Goals as goal

pub returns-clause-adds : goal.returns-clause-adds
returns-clause-adds c = record {
  operator = operator.Join c.in_ok-join.join;
  adds = c.in_ok-whole.ensures.nodes;
  task_is = c.in_ok-join.ensures.task
      ∙ same-join _ _ _ _ _ _ _ _ c.in_ok-pairs.ensures c.in_ok-condition.ensures
      c.in_ok-left_schema.ensures c.in_ok-right_schema.ensures;
  stands = c.in_ok-join.ensures.stands;
  root = c.in_ok-whole.ensures.root;
}
