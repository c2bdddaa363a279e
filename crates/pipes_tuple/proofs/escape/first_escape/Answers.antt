use Rattle.std.proofs.Common.{◌≡◌, ◌∙◌, ◌++◌, ◌+◌, sym, get_or, take, drop}
use Rattle.pipes_tuple.specs.Texts.{escaped, escaped_byte}
use Rattle.pipes_tuple.proofs.Escapes.{escaped-plain, escaped-around}
use Rattle.pipes_tuple.proofs.escape.first_escape.Goals as goal

pub returns-in-None-clause-cases : goal.returns-in-None-clause-cases
returns-in-None-clause-cases c = escaped-plain c.args.text.now 0 c.in-None.ensures.place

pub escape_of-requires : goal.escape_of-requires
escape_of-requires c = (escaped-around c.args.text.now c.in-Some.place c.in-Some.ensures.place).0

pub returns-in-Some-clause-cases : goal.returns-in-Some-clause-cases
returns-in-Some-clause-cases c =
    let parts : take c.in-Some.place c.args.text.now ++ escaped_byte
    (get_or c.args.text.now c.in-Some.place 0) ++ escaped
    (drop (c.in-Some.place + 1) c.args.text.now) ≡ c.around.result.0.now
    ++ c.escape_of.result.now ++ escaped c.around.result.1.now =
    λ k. sym c.around.ensures.before k ++ sym c.escape_of.ensures k ++ escaped
    (sym c.around.ensures.after k) in
    (escaped-around c.args.text.now c.in-Some.place c.in-Some.ensures.place).1 ∙ parts
