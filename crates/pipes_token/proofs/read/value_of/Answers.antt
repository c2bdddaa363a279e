use Rattle.std.proofs.Common.{◌-◌, ◌^◌, min, arith, take_all, ap, ◌∙◌, ℕ, List}
use Rattle.std.specs.Str.Parse.{digits_value}
use Rattle.pipes_token.proofs.Digits.{more_digits}
use Rattle.pipes_token.proofs.read.value_of.Goals as goal

pub loop-digit-preserved : goal.loop-digit-preserved
loop-digit-preserved c =
    let more = more_digits c.args.digits.now c.loop-digit.digit-index c.loop-digit.value c.requires
    c.loop-digit-test.true c.loop-digit.invariant in
    rw (
      c.saturating_add-value.ensures,
      c.saturating_mul.ensures,
      c.from.ensures,
      c.saturating_sub.ensures,
    ) more

pub returns : goal.returns
returns c =
    let all = take_all c.loop-digit.digit-index c.args.digits.now (omega arith) in
    c.loop-digit.invariant ∙ ap (λ (x : List ℕ). min (digits_value 10 x) (2 ^ 64 - 1)) all
