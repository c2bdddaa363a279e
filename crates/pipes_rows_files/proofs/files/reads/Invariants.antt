use Rattle.std.proofs.Common.{◌≡◌}
use Rattle.pipes_rows_files.proofs.files.reads.Given as goal

abbrev pub invariant-turns : goal.invariant-turns
invariant-turns g l = g.S.Source.name l.source ≡ g.S.Source.name l.fn.source
