use Rattle.std.proofs.Common.{ℕ, ◌∷◌, List, ap, sym, ◌∙◌}
use Rattle.pipes_token.proofs.Characters.{no_char_at_slash, no_char_at_escape, escape_begins}
use Rattle.pipes_token.proofs.quoted.escape.Goals as goal

pub returns-in_default-clause-none : goal.returns-in_default-clause-none
returns-in_default-clause-none c =
    no_char_at_slash c.args.bytes.now (c.requires ∙ ap (λ (x : List ℕ). 92 ∷ x)
    c.in_default.ensures.parts)

pub returns-in-Some-escaped-clause-begins : goal.returns-in-Some-escaped-clause-begins
returns-in-Some-escaped-clause-begins c =
    escape_begins c.in-Some.code c.in-Some-escaped.character c.in-Some.rest.now c.args.bytes.now
    (c.requires ∙ ap (λ (x : List ℕ). 92 ∷ x) c.in-Some.ensures.parts)
    (sym c.in-Some-escaped.ensures)

pub returns-in-None-clause-none : goal.returns-in-None-clause-none
returns-in-None-clause-none c =
    no_char_at_escape c.in-Some.code c.in-Some.rest.now c.args.bytes.now
    (c.requires ∙ ap (λ (x : List ℕ). 92 ∷ x) c.in-Some.ensures.parts) (sym c.in-None.ensures)
