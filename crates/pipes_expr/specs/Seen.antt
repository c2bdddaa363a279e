-- A value that is looked at where it is.
use Rattle.pipes_tuple.specs.declared.value.Value.{Value}
use Rattle.pipes_tuple.specs.declared.value.Value.TheVariants as value
use Rattle.pipes_expr.specs.declared.seen.Seen.{Seen}
use Rattle.pipes_expr.specs.declared.seen.Seen.TheVariants.{Int, Text, Flag}

abbrev pub value_seen : Seen → Value
value_seen (Int n) = value.Int n
value_seen (Text t) = value.Text t.now
value_seen (Flag b) = value.Flag b
