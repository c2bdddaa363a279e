use Rattle.pipes_token.proofs.Words.{prefix_digits, number_begins}
use Rattle.pipes_token.proofs.read.number.Goals as goal

pub value_of-requires : goal.value_of-requires
value_of-requires c = prefix_digits c.args.here.now c.split_at.result.0.now c.digits_len.result
    c.digits_len.ensures.value c.split_at.ensures.front

pub returns : goal.returns
returns c = number_begins c.value_of.result c.args.byte c.args.later.now c.args.here.now
    c.split_at.result.0.now c.split_at.result.1.now c.digits_len.result c.requires.parts
    c.requires.digit c.digits_len.ensures.value c.split_at.ensures.front c.split_at.ensures.back
    c.value_of.ensures
