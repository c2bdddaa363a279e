use Rattle.pipes_timeline.proofs.Calling.{from-ok}
use Rattle.pipes_group.proofs.PartTurns.{gain_least, gain_greatest}
use Rattle.pipes_group.proofs.part.gain.Goals as goal

pub returns-in_ok-value_at-in-Least : goal.returns-in_ok-value_at-in-Least
returns-in_ok-value_at-in-Least c =
    from-ok c.count_in.result
    (gain_least c.args.tuple.now c.args.part.now c.in-Least.field-0 c.column_of-column.result
    c.in_ok-value_at-in-Least.field-0 c.in-Least.values c.count_in.new.values c.in-Least.is
    c.column_of-column.ensures c.in_ok-value_at-in-Least.ensures) c.count_in.ensures

pub returns-in_ok-value_at-in-Greatest : goal.returns-in_ok-value_at-in-Greatest
returns-in_ok-value_at-in-Greatest c =
    from-ok c.count_in-in-Greatest.result
    (gain_greatest c.args.tuple.now c.args.part.now c.in-Greatest.field-0
    c.column_of-column.result c.in_ok-value_at-in-Greatest.field-0 c.in-Greatest.values
    c.count_in-in-Greatest.new.values c.in-Greatest.is c.column_of-column.ensures
    c.in_ok-value_at-in-Greatest.ensures) c.count_in-in-Greatest.ensures
