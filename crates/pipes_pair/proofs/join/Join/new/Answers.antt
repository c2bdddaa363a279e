use Rattle.std.proofs.Common.{refl, ◌∙◌}
use Rattle.pipes_pair.specs.JoinLaw.{join_new}
use Rattle.pipes_pair.proofs.Typing.{sides_fit}
use Rattle.pipes_pair.proofs.join.Join.new.Goals as goal

pub returns-clause-stands : goal.returns-clause-stands
returns-clause-stands c =
    join_new _ refl (sides_fit c.args.pairs c.args.condition c.args.left c.args.right c.requires)
    c.new-left_watch.ensures c.new-right_watch.ensures
    (c.new-left_area.ensures.columns ∙ c.in_ok-left_cols.ensures)
    (c.new-right_area.ensures.columns ∙ c.in_ok-right_cols.ensures)
    c.new-left_area.ensures.nothing c.new-right_area.ensures.nothing c.new-hold.ensures
