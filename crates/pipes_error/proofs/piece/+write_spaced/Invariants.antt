use Rattle.std.proofs.Common.{length}
use Rattle.pipes_error.proofs.piece.+write_spaced.Given as goal

abbrev pub decreases-write_spaced : goal.decreases-write_spaced
decreases-write_spaced g l = length l.pieces.now
