use Rattle.std.proofs.Common.{◌≡◌, ◌∙◌, ap, sym, subst, List, length, map}
use Rattle.std.specs.List.{All}
use Rattle.std.specs.Vec.{with_items}
use Rattle.std.proofs.lemmas.List.{with_items_is}
use Rattle.pipes_edge.specs.Causes.{Rose}
use Rattle.pipes_query.specs.declared.query.SourceDecl.{SourceDecl}
use Rattle.pipes_error.specs.Fault.{Fault, fault_seen}
use Rattle.pipes_run.specs.Outcome.{FaultCounts}
use Rattle.pipes_run.specs.Running.{AllFound, FindsNot, IsNamed}
use Rattle.pipes_run.proofs.Finding.{found-count}
use Rattle.pipes_run.proofs.Running.{over-unfound}
use Rattle.pipes_run.proofs.Over.{count_after, kept_after, source_of, ran_all, ran_fault}
use Rattle.pipes_run.proofs.run.run_over.Goals as goal

pub returns-in-Err : goal.returns-in-Err
returns-in-Err g c =
    over-unfound c.args.settings.form c.args.query.now (g.F.Files.known c.args.files.now) _ _
    (g.K.Sink.written c.args.out.now) (fault_seen c.in-Err.fault)
    (subst (λ (ss : List SourceDecl). FindsNot (g.F.Files.known c.args.files.now) ss
    (g.F.Files.faults c.args.files.now) (g.F.Files.faults c.find_all.new.files)
    (g.F.Files.failed_searches c.args.files.now)
    (g.F.Files.failed_searches c.find_all.new.files) (fault_seen c.in-Err.fault))
    c.as_slice.ensures.value c.in-Err.ensures.refused)

pub run-ran-requires-clause-count : goal.run-ran-requires-clause-count
run-ran-requires-clause-count g c κs within =
    ap (λ (l : List _). length l) c.as_mut_slice-srcs_now.ensures.value
    ∙ found-count g.F.Src.Source.left g.F.Src.Source.faults g.F.Src.Source.found_at
    g.F.Src.Source.name (g.F.Files.keeps c.find_all.new.files) (g.F.Files.known c.args.files.now)
    c.as_slice.result.now c.in-Ok.srcs.items c.in-Ok.ensures.found
    ∙ ap (λ (l : List SourceDecl). length l) c.as_slice.ensures.value

pub retire_all-requires-after_bounds : goal.retire_all-requires-after_bounds
retire_all-requires-after_bounds g c κs within =
    let found = subst (λ (ss : List SourceDecl). AllFound g.F.Src.Source.left g.F.Src.Source.faults
    g.F.Src.Source.found_at g.F.Src.Source.name (g.F.Files.keeps c.find_all.new.files)
    (g.F.Files.known c.args.files.now) ss c.in-Ok.srcs.items) c.as_slice.ensures.value
    c.in-Ok.ensures.found in
    let listed : (with_items c.in-Ok.srcs c.run-ran.new.srcs).items ≡ c.run-ran.new.srcs =
    with_items_is c.in-Ok.srcs c.run-ran.new.srcs (count_after g.F.Src.Source.left
    g.F.Src.Source.faults g.F.Src.Source.found_at g.F.Src.Source.name
    (g.F.Files.keeps c.find_all.new.files) c.args.query.now (g.F.Files.known c.args.files.now)
    c.in-Ok.srcs.items c.as_mut_slice-srcs_now.result.now c.run-ran.new.srcs found
    c.as_mut_slice-srcs_now.ensures.value c.run-ran.ensures.name
    ∙ sym (found-count g.F.Src.Source.left g.F.Src.Source.faults g.F.Src.Source.found_at
    g.F.Src.Source.name (g.F.Files.keeps c.find_all.new.files) (g.F.Files.known c.args.files.now)
    c.args.query.now.sources c.in-Ok.srcs.items found) ∙ sym c.in-Ok.srcs.ok.0) in
    subst (λ (l : List _). All (λ src. g.F.Files.keeps c.find_all.new.files
    (g.F.Src.Source.name src)) l) (sym listed)
    (kept_after g.F.Src.Source.left g.F.Src.Source.faults g.F.Src.Source.found_at
    g.F.Src.Source.name
    (g.F.Files.keeps c.find_all.new.files) c.args.query.now (g.F.Files.known c.args.files.now)
    c.in-Ok.srcs.items c.as_mut_slice-srcs_now.result.now c.run-ran.new.srcs found
    c.as_mut_slice-srcs_now.ensures.value c.run-ran.ensures.name)

pub named-requires : goal.named-requires
named-requires g c =
    let found = subst (λ (ss : List SourceDecl). AllFound g.F.Src.Source.left g.F.Src.Source.faults
    g.F.Src.Source.found_at g.F.Src.Source.name (g.F.Files.keeps c.find_all.new.files)
    (g.F.Files.known c.args.files.now) ss c.in-Ok.srcs.items) c.as_slice.ensures.value
    c.in-Ok.ensures.found in
    source_of g.F.Src.Source.left g.F.Src.Source.faults g.F.Src.Source.found_at g.F.Src.Source.name
    (g.F.Files.keeps c.find_all.new.files) c.args.query.now (g.F.Files.known c.args.files.now)
    c.in-Ok.srcs.items c.as_mut_slice-srcs_now.result.now c.run-ran.new.srcs found
    c.as_mut_slice-srcs_now.ensures.value c.run-ran.ensures.name
    (map g.F.Src.Source.faults c.as_mut_slice-srcs_now.result.now) (g.K.Sink.faults c.args.out.now)
    (g.K.Sink.faults c.run-ran.new.out) (length c.as_slice-in-Err-ran.result.now) c.in-Err-ran.fault
    (ap (λ (l : List SourceDecl). length l) c.as_slice-in-Err-ran.ensures.value)
    c.in-Err-ran.ensures.cause

pub returns-in-Ok-ran : goal.returns-in-Ok-ran
returns-in-Ok-ran g c =
    let found = subst (λ (ss : List SourceDecl). AllFound g.F.Src.Source.left g.F.Src.Source.faults
    g.F.Src.Source.found_at g.F.Src.Source.name (g.F.Files.keeps c.find_all.new.files)
    (g.F.Files.known c.args.files.now) ss c.in-Ok.srcs.items) c.as_slice.ensures.value
    c.in-Ok.ensures.found in
    let before : FaultCounts = record {
      files = g.F.Files.faults c.args.files.now;
      searches = g.F.Files.failed_searches c.args.files.now;
      out = g.K.Sink.faults c.args.out.now;
    } in
    let now : FaultCounts = record {
      files = g.F.Files.faults c.retire_all.new.files;
      searches = g.F.Files.failed_searches c.retire_all.new.files;
      out = g.K.Sink.faults c.run-ran.new.out;
    } in
    ran_all g.F.Src.Source.left g.F.Src.Source.faults g.F.Src.Source.found_at g.F.Src.Source.name
    (g.F.Files.keeps c.find_all.new.files) c.args.query.now (g.F.Files.known c.args.files.now)
    c.in-Ok.srcs.items c.as_mut_slice-srcs_now.result.now c.run-ran.new.srcs found
    c.as_mut_slice-srcs_now.ensures.value c.run-ran.ensures.name
    c.args.settings.form before now (g.K.Sink.written c.args.out.now)
    (g.K.Sink.written c.run-ran.new.out) c.in-Ok-ran.ensures.ran

pub returns-in-Err-ran : goal.returns-in-Err-ran
returns-in-Err-ran g c =
    let found = subst (λ (ss : List SourceDecl). AllFound g.F.Src.Source.left g.F.Src.Source.faults
    g.F.Src.Source.found_at g.F.Src.Source.name (g.F.Files.keeps c.find_all.new.files)
    (g.F.Files.known c.args.files.now) ss c.in-Ok.srcs.items) c.as_slice.ensures.value
    c.in-Ok.ensures.found in
    let listed : (with_items c.in-Ok.srcs c.run-ran.new.srcs).items ≡ c.run-ran.new.srcs =
    with_items_is c.in-Ok.srcs c.run-ran.new.srcs (count_after g.F.Src.Source.left
    g.F.Src.Source.faults g.F.Src.Source.found_at g.F.Src.Source.name
    (g.F.Files.keeps c.find_all.new.files) c.args.query.now (g.F.Files.known c.args.files.now)
    c.in-Ok.srcs.items c.as_mut_slice-srcs_now.result.now c.run-ran.new.srcs found
    c.as_mut_slice-srcs_now.ensures.value c.run-ran.ensures.name
    ∙ sym (found-count g.F.Src.Source.left g.F.Src.Source.faults g.F.Src.Source.found_at
    g.F.Src.Source.name (g.F.Files.keeps c.find_all.new.files) (g.F.Files.known c.args.files.now)
    c.args.query.now.sources c.in-Ok.srcs.items found) ∙ sym c.in-Ok.srcs.ok.0) in
    let before : FaultCounts = record {
      files = g.F.Files.faults c.args.files.now;
      searches = g.F.Files.failed_searches c.args.files.now;
      out = g.K.Sink.faults c.args.out.now;
    } in
    let now : FaultCounts = record {
      files = g.F.Files.faults c.retire_all.new.files;
      searches = g.F.Files.failed_searches c.retire_all.new.files;
      out = g.K.Sink.faults c.run-ran.new.out;
    } in
    ran_fault g.F.Src.Source.left g.F.Src.Source.faults g.F.Src.Source.found_at g.F.Src.Source.name
    (g.F.Files.keeps c.find_all.new.files) c.args.query.now (g.F.Files.known c.args.files.now)
    c.in-Ok.srcs.items c.as_mut_slice-srcs_now.result.now c.run-ran.new.srcs found
    c.as_mut_slice-srcs_now.ensures.value c.run-ran.ensures.name
    c.args.settings.form before now (g.K.Sink.written c.args.out.now)
    (g.K.Sink.written c.run-ran.new.out) (g.F.Files.faults c.find_all.new.files)
    c.run-ran.ensures.found_at c.in-Ok.ensures.later
    (subst (λ (l : List _). All (λ src. Rose (g.F.Src.Source.found_at src)
    (g.F.Src.Source.faults src)
    → Rose (g.F.Files.faults c.find_all.new.files (g.F.Src.Source.name src))
    (g.F.Files.faults c.retire_all.new.files (g.F.Src.Source.name src))) l) listed
    c.retire_all.ensures.rose)
    c.in-Err-ran.fault (fault_seen c.named.result)
    (subst (λ (ss : List SourceDecl). IsNamed ss c.in-Err-ran.fault (fault_seen c.named.result))
    c.as_slice-in-Err-ran.ensures.value c.named.ensures)
    c.in-Err-ran.ensures.ran c.in-Err-ran.ensures.cause
