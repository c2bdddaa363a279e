use Rattle.std.proofs.Common.{◌≡◌, ◌≤◌, take}
use Rattle.pipes_edge.specs.Outside.{NoneFalls}
use Rattle.pipes_run.specs.Running.{AllFound}
use Rattle.pipes_run.proofs.sources.find_all.Given as goal

abbrev pub invariant-sources : goal.invariant-sources
invariant-sources g l = record {
  known : g.F.Files.known l.files ≡ g.F.Files.known l.initial.files;
  later : NoneFalls (g.F.Files.faults l.initial.files) (g.F.Files.faults l.files);
  searches : g.F.Files.failed_searches l.initial.files ≤ g.F.Files.failed_searches l.files;
  found : AllFound g.F.Src.Source.left g.F.Src.Source.faults g.F.Src.Source.found_at
      g.F.Src.Source.name (g.F.Files.keeps l.files) (g.F.Files.known l.initial.files)
      (take l.source-index l.sources) l.srcs.items;
}
