use Rattle.pipes_token.proofs.Words.{prefix_is_word, word_begins}
use Rattle.pipes_token.proofs.read.word.Goals as goal

pub word_kind-requires : goal.word_kind-requires
word_kind-requires c = prefix_is_word c.args.byte c.args.later.now c.args.here.now
    c.split_at.result.0.now c.word_len.result c.requires.parts c.requires.letter
    c.word_len.ensures.value c.split_at.ensures.front

pub returns : goal.returns
returns c = word_begins c.in_ok-word_kind.field-0 c.args.byte c.args.later.now c.args.here.now
    c.split_at.result.0.now c.split_at.result.1.now c.word_len.result c.requires.parts
    c.requires.letter c.word_len.ensures.value c.split_at.ensures.front c.split_at.ensures.back
    c.in_ok-word_kind.ensures
