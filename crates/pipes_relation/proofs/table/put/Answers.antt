use Rattle.std.proofs.Common.{rules, arith, sym, ap, ◌∙◌}
use Rattle.pipes_relation.proofs.Tables.{put_is}
use Rattle.pipes_relation.proofs.table.put.Goals as goal

pub returns : goal.returns
returns c =
    put_is c.args.groups.now.items c.args.i c.index_mut.result.now c.push.new.self c.args.row
    c.requires c.index_mut.ensures.value c.in_ok-push.ensures.items
