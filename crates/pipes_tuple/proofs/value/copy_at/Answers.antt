use Rattle.std.proofs.Common.{arith}
use Rattle.std.proofs.lemmas.Bool.Decides.{nat_tests}
use Rattle.pipes_tuple.proofs.Columns.{at_columns-there, at_columns-missing}
use Rattle.pipes_tuple.proofs.value.copy_at.Goals as goal
use Rattle.pipes_tuple.proofs.value.copy_at.Goals.{in-Some+in_ok-copy+in_ok-push, in_default}

pub loop-column-preserved : goal.loop-column-preserved
loop-column-preserved c =
    let columns = c.args.columns.now in
    let values = c.args.values.now in
    let i = c.loop-column.column-index in
    elim c.match-get.branch [
      | in-Some+in_ok-copy+in_ok-push w ↦
          let got = w.in-Some.ensures.lookup in
          let next = at_columns-there columns values i w.in-Some.value.now c.loop-column-test.true
          got.3.0 got.1 in
          cc (w.in_ok-push.ensures.items, w.in_ok-copy.ensures)
      | in_default w ↦
          let next = at_columns-missing columns values i c.loop-column-test.true
          (grind (arith, nat_tests, w.in_default.ensures.lookup)) in
          cc
    ]
