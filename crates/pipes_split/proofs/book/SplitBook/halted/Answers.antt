use Rattle.std.proofs.Common.{rules}
use Rattle.pipes_split.proofs.Keeping.{halteds}
use Rattle.pipes_split.proofs.book.SplitBook.halted.Goals as goal

pub load-requires : goal.load-requires
load-requires c = (search rules, search rules, halteds _ _ _ _ c.requires.number)
