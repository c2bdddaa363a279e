use Rattle.pipes_window.specs.declared.item.Item.TheVariants.{Row}
use Rattle.pipes_arrivals.proofs.Through.{rises-with}
use Rattle.pipes_arrivals.proofs.passing.pass_row.Goals as goal

pub pass_due-requires-clause-rises : goal.pass_due-requires-clause-rises
pass_due-requires-clause-rises c =
    rises-with c.args.window.now.last (Row c.args.stamp c.args.tuple) c.args.waiting.now c.put.new.self
    c.requires.rises c.requires.order c.requires.below c.in_ok-put.ensures.put
