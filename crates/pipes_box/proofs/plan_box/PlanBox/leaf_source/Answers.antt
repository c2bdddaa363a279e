use Rattle.std.proofs.Common.{◌≡◌, ◌<◌, ◌∙◌, ℕ, List, length, get_or, ap, sym, arith}
use Rattle.pipes_box.specs.declared.leaf.Leaf.{Leaf}
use Rattle.pipes_box.specs.Shapes.{shape_of, leaf_count}
use Rattle.pipes_box.proofs.Giving.{leaves-count, source-at}
use Rattle.pipes_box.proofs.plan_box.PlanBox.leaf_source.Goals as goal

pub returns-clause-source : goal.returns-clause-source
returns-clause-source c = λ schemas plan given got s d.
    let e : Leaf = c.index.result.now in
    let small : c.args.leaf < leaf_count (shape_of schemas plan) =
    omega (
      arith,
      c.requires,
      ap length s.leaves_are,
      leaves-count (shape_of schemas plan) 0,
    ) in
    ap (λ (x : Leaf). x.source) c.index.ensures
    ∙ ap (λ (ls : List Leaf). (get_or ls c.args.leaf e).source) s.leaves_are
    ∙ source-at (shape_of schemas plan) 0 c.args.leaf e d small
