use Rattle.std.proofs.Common.{rules}
use Rattle.pipes_split.proofs.Keeping.{closes}
use Rattle.pipes_split.proofs.book.SplitBook.close_split.Goals as goal

pub fetch_or-found-requires : goal.fetch_or-found-requires
fetch_or-found-requires c =
    (search rules, search rules, closes _ _ _ _ c.requires.epoch c.requires.closes)
