use Rattle.std.proofs.Common.{◌≡◌, List, ℕ}
use Rattle.std.specs.List.{All}
use Rattle.pipes_edge.specs.Outside.{NoneFalls}
use Rattle.pipes_run.proofs.Retiring.{Rises}
use Rattle.pipes_run.proofs.sources.retire_all.Given as goal

abbrev pub invariant-srcs : goal.invariant-srcs
invariant-srcs g l = record {
  can : (goal.iterator-srcs g).can_next l.src-iterator;
  finite : (goal.iterator-srcs g).is_finite l.src-iterator;
  known : g.F.Files.known l.files ≡ g.F.Files.known l.initial.files;
  later : NoneFalls (g.F.Files.faults l.initial.files) (g.F.Files.faults l.files);
  searches : g.F.Files.failed_searches l.files ≡ g.F.Files.failed_searches l.initial.files;
  keeps : (n : List ℕ) → g.F.Files.keeps l.initial.files n → g.F.Files.keeps l.files n;
  rose : All (Rises g.F.Src.Source.name g.F.Src.Source.found_at g.F.Src.Source.faults
      (g.F.Files.faults l.initial.files) (g.F.Files.faults l.files)) l.yielded;
}
