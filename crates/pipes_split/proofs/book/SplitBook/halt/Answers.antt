use Rattle.std.proofs.Common.{rules}
use Rattle.pipes_split.proofs.Keeping.{halts}
use Rattle.pipes_split.proofs.book.SplitBook.halt.Goals as goal

pub fetch_or-requires : goal.fetch_or-requires
fetch_or-requires c = (search rules, search rules, halts _ _ _ _ c.requires.number)
