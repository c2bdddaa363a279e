use Rattle.std.proofs.Common.{rules}
use Rattle.pipes_split.proofs.Keeping.{looks}
use Rattle.pipes_split.proofs.book.SplitBook.look.Goals as goal

pub load-found-requires : goal.load-found-requires
load-found-requires c = (search rules, search rules, looks _ _ _ _ c.requires.epoch)
