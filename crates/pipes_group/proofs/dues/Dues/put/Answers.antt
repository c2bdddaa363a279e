use Rattle.pipes_group.proofs.Queue.{joins_insert}
use Rattle.pipes_group.proofs.dues.Dues.put.Goals as goal

pub returns : goal.returns
returns c =
    rw (← c.self.view_is)
    (joins_insert (c.args.at, c.args.tuple) c.self.inside.set.keys c.insert.new.self.keys
    c.in_ok-insert.ensures.keys)
