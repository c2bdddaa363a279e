use Rattle.std.proofs.Common.{sym, ◌∙◌, ap, subst}
use Rattle.std.specs.Prelude.{OnOk}
use Rattle.pipes_stream.specs.Lawful.{Takes}
use Rattle.pipes_pair.specs.Joins.{JoinStands}
use Rattle.pipes_node.specs.declared.operator.PlanOperator.{PlanOperator}
use Rattle.pipes_node.specs.Operators.{task_of, StandsFor}
use Rattle.pipes_node.proofs.operator.PlanOperatorOperator.take.Goals as goal

pub returns-in-Join-clause-same_task : goal.returns-in-Join-clause-same_task
returns-in-Join-clause-same_task c =
    c.take-in-Join.ensures.same_task ∙ ap task_of (sym c.in-Join.is)

pub returns-in-Join-clause-takes : goal.returns-in-Join-clause-takes
returns-in-Join-clause-takes c =
    subst (λ (o : PlanOperator). OnOk c.take-in-Join.result
    (Takes (task_of o) (StandsFor o) (JoinStands c.take-in-Join.new.self) c.args.port
    c.args.message c.args.out.now.items c.take-in-Join.new.out.items)) (sym c.in-Join.is)
    c.take-in-Join.ensures.takes
