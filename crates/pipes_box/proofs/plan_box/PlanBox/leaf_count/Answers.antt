use Rattle.std.proofs.Common.{◌≡◌, ap, arith, length}
use Rattle.pipes_box.specs.Shapes.{shape_of}
use Rattle.pipes_box.proofs.Giving.{leaves-count, leaves-few}
use Rattle.pipes_box.proofs.plan_box.PlanBox.leaf_count.Goals as goal

pub returns-clause-count : goal.returns-clause-count
returns-clause-count c = λ schemas plan given got s.
    let ls = leaves-count (shape_of schemas plan) 0 in
    let few = leaves-few (shape_of schemas plan) in
    omega (arith, ls, few, s.few, ap length s.leaves_are)
