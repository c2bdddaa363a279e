use Rattle.std.proofs.Common.{arith, get_or}
use Rattle.std.specs.Int.{IsInRange}
use Rattle.std.proofs.lemmas.Bool.Decides.{nat_tests}
use Rattle.pipes_tuple.proofs.Reading.{digits-more}
use Rattle.pipes_tuple.proofs.digits.digits_value.Goals as goal

pub loop-digit-preserved : goal.loop-digit-preserved
loop-digit-preserved c =
    let digits = c.args.digits.now in
    let i = c.loop-digit.digit-index in
    let digit : IsInRange 48 57 (get_or digits i 0) = grind (arith, nat_tests) in
    let more = digits-more digits i c.loop-digit.number c.loop-digit-test.true digit
    c.loop-digit.invariant.digits c.loop-digit.invariant.number in
    record {
      digits = more.0;
      number = rw (c.saturating_add-number.ensures, c.saturating_mul.ensures, c.from.ensures)
          more.1;
    }
