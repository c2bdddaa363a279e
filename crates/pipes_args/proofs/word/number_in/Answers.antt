use Rattle.std.proofs.Common.{◌≡◌, ◌∙◌, sym, subst, List, ℕ, true}
use Rattle.std.specs.Char.{is_ascii_digit}
use Rattle.std.specs.List.{list_all}
use Rattle.pipes_args.proofs.Digits.{number-none}
use Rattle.pipes_args.proofs.word.number_in.Goals as goal

pub returns-in_err-number-clause-number : goal.returns-in_err-number-clause-number
returns-in_err-number-clause-number c =
    let digits = subst (λ (l : List ℕ). list_all is_ascii_digit l ≡ true) c.as_bytes.ensures.value
    (sym c.if-not-are_digits.ensures) in
    c.from_residual.ensures ∙ number-none c.args.least c.args.most c.args.word.now c.parse.result
    c.ranges.most.fits digits
    c.parse.ensures.value.0 (sym c.ok.ensures.value ∙ c.in_err-number.was)
