use Rattle.std.proofs.Common.{rules}
use Rattle.pipes_split.proofs.Keeping.{raises}
use Rattle.pipes_split.proofs.book.SplitBook.raise.Goals as goal

pub fetch_max-found-requires : goal.fetch_max-found-requires
fetch_max-found-requires c =
    (search rules, search rules, raises _ _ _ _ _ c.requires.epoch c.requires.end)
