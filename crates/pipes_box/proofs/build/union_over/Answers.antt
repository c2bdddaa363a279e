use Rattle.pipes_box.proofs.PerKind.{union-same}
use Rattle.pipes_box.proofs.build.union_over.Goals as goal

pub new-requires : goal.new-requires
new-requires c = union-same c.args.left.schema c.args.right.schema c.in_ok-copy.field-0
    c.in_ok-copy.ensures c.requires
