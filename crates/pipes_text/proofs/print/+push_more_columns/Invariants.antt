use Rattle.std.proofs.Common.{length}
use Rattle.pipes_text.proofs.print.+push_more_columns.Given as goal

abbrev pub decreases-push_more_columns : goal.decreases-push_more_columns
decreases-push_more_columns l = length l.names.now
