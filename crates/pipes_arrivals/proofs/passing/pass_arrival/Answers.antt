use Rattle.std.proofs.Common.{[], ◌∷◌}
use Rattle.pipes_window.specs.declared.item.Item.TheVariants.{Beat}
use Rattle.pipes_feed.specs.Waiting.{up_to}
use Rattle.pipes_feed.specs.Released.{rows_with}
use Rattle.pipes_arrivals.proofs.Through.{passes-then}
use Rattle.pipes_arrivals.proofs.passing.pass_arrival.Goals as goal

pub returns-clause-passes : goal.returns-clause-passes
returns-clause-passes c =
    passes-then c.pass_item.result
    (up_to c.args.floor (rows_with c.args.arrival c.args.waiting.now)) (Beat c.args.floor ∷ [])
    c.args.window.now c.pass_rows.new.window c.pass_item.new.window c.args.out.now.items
    c.pass_rows.new.out.items c.pass_item.new.out.items c.pass_rows.ensures.kind
    c.in_ok-pass_rows.ensures.passes c.pass_item.ensures.passes
