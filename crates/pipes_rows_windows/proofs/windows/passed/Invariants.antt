use Rattle.std.proofs.Common.{◌≡◌, false}
use Rattle.pipes_rows_windows.proofs.windows.passed.Given as goal

abbrev pub invariant-rows : goal.invariant-rows
invariant-rows l = l.window.ended ≡ false
