use Rattle.std.proofs.Common.{◌≡◌, ℕ, List, sym, ◌∙◌, arith, length, rules, subst}
use Rattle.pipes_token.proofs.Characters.{wide_begins, wide_none}
use Rattle.pipes_token.proofs.quoted.wide_character.Goals as goal

pub returns-in-Some-clause-begins : goal.returns-in-Some-clause-begins
returns-in-Some-clause-begins c =
    let parts = sym c.chars.ensures.rest ∙ c.in-Some.ensures.steps.0 in
    wide_begins c.in-Some.character c.min.result c.valid_prefix-prefix.result.now _ c.args.bytes.now
    _
    (search rules) parts (search rules) c.requires (search rules)

pub returns-in-None-clause-none : goal.returns-in-None-clause-none
returns-in-None-clause-none c =
    let empty : length c.valid_prefix-prefix.result.now ≡ 0 = subst (λ (x : List ℕ). length x ≡ 0)
    c.chars.ensures.rest c.in-None.ensures.steps.0.0 in
    wide_none c.min.result c.args.bytes.now (search rules)
    (λ k some fits. c.valid_prefix-prefix.ensures.longest k (omega arith) fits) c.requires
