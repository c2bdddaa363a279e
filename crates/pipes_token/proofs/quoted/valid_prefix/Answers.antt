use Rattle.std.proofs.Common.{ℕ, length, arith, List, ap, length-take-le}
use Rattle.pipes_token.proofs.quoted.valid_prefix.Goals as goal

pub returns-in-Err-clause-longest : goal.returns-in-Err-clause-longest
returns-in-Err-clause-longest c n more fits =
    let valid = c.in-Err.ensures.cases.1 in
    valid.longest n (omega (
      arith,
      ap (λ (x : List ℕ). length x) c.valid.ensures,
      length-take-le c.valid_up_to.result c.args.bytes.now,
      valid.short,
    ))
