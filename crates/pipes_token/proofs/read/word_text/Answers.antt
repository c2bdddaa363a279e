use Rattle.pipes_token.proofs.Words.{word_is_text}
use Rattle.pipes_token.proofs.read.word_text.Goals as goal

pub unreachable-requires : goal.unreachable-requires
unreachable-requires c = c.in-Err.ensures.cases.0 (word_is_text c.args.word.now c.requires.word)
