use Rattle.std.proofs.Common.{rules, refl, drop, take, ◌+◌}
use Rattle.pipes_error.specs.Fault.{fault_seen}
use Rattle.pipes_run.proofs.Finding.{found-turn, found-kept, found-later, finds-not, at_place}
use Rattle.pipes_run.proofs.Finding.{missing_known, search_cause}
use Rattle.pipes_run.proofs.sources.find_all.Goals as goal

pub retire_all-requires-after_bounds : goal.retire_all-requires-after_bounds
retire_all-requires-after_bounds g c κs within =
    found-kept g.F.Src.Source.left g.F.Src.Source.faults g.F.Src.Source.found_at
    g.F.Src.Source.name (g.F.Files.keeps c.find_src.new.self) (g.F.Files.known c.args.files.now)
    (take c.sources.source-index c.args.sources.now) c.sources.srcs.items c.sources.srcs.items
    (found-later g.F.Src.Source.left g.F.Src.Source.faults g.F.Src.Source.found_at
    g.F.Src.Source.name (g.F.Files.keeps c.sources.files) (g.F.Files.keeps c.find_src.new.self)
    (g.F.Files.known c.args.files.now) (take c.sources.source-index c.args.sources.now)
    c.sources.srcs.items c.in-Err.ensures.keeps c.sources.invariant.found) refl

pub returns-in-Err-clause-refused : goal.returns-in-Err-clause-refused
returns-in-Err-clause-refused g c =
    let s = c.source-item.result in
    finds-not g.F.Src.Source.left g.F.Src.Source.faults g.F.Src.Source.found_at
    g.F.Src.Source.name (g.F.Files.keeps c.sources.files) (g.F.Files.known c.args.files.now)
    (take c.sources.source-index c.args.sources.now) c.sources.srcs.items s
    (drop (c.sources.source-index + 1) c.args.sources.now) c.args.sources.now
    c.sources.invariant.found
    (at_place c.args.sources.now c.sources.source-index s c.sources-test.true c.source-item.is)
    (g.F.Files.faults c.args.files.now) (g.F.Files.faults c.retire_all.new.files)
    (g.F.Files.failed_searches c.args.files.now)
    (g.F.Files.failed_searches c.retire_all.new.files) (fault_seen c.unfound.result) c.in-Err.why
    c.unfound.ensures
    (missing_known g.F.Src.Source.left (g.F.Files.known c.args.files.now)
    (g.F.Files.known c.sources.files) c.as_str.result.now s.file c.in-Err.why
    c.in-Err.ensures.answer c.sources.invariant.known c.as_str.ensures.value)
    (search_cause g.row.F-Src.Denot (g.F.Files.faults c.args.files.now) (g.F.Files.faults
    c.sources.files)
    (g.F.Files.faults c.find_src.new.self) (g.F.Files.faults c.retire_all.new.files)
    (g.F.Files.failed_searches c.args.files.now) (g.F.Files.failed_searches c.sources.files)
    (g.F.Files.failed_searches c.find_src.new.self)
    (g.F.Files.failed_searches c.retire_all.new.files) c.as_str.result.now s.file c.in-Err.why
    c.in-Err.ensures.cause c.in-Err.ensures.searches c.sources.invariant.later
    c.retire_all.ensures.later c.sources.invariant.searches c.retire_all.ensures.searches
    c.as_str.ensures.value)

pub sources-preserved : goal.sources-preserved
sources-preserved g c = record {
  known = search rules;
  later = search rules;
  searches = search rules;
  found = found-turn g.F.Src.Source.left g.F.Src.Source.faults g.F.Src.Source.found_at
      g.F.Src.Source.name (g.F.Files.keeps c.sources.files) (g.F.Files.keeps c.find_src.new.self)
      (g.F.Files.known c.args.files.now) (g.F.Files.known c.sources.files) c.args.sources.now
      c.sources.srcs.items c.push.new.self.items c.sources.source-index c.source-item.result
      c.in-Ok.src c.as_str.result.now c.in-Ok.ensures.keeps c.sources-test.true c.source-item.is
      (search rules) c.sources.invariant.known c.as_str.ensures.value c.in-Ok.ensures.answer
      c.in-Ok.ensures.found c.sources.invariant.found;
}
