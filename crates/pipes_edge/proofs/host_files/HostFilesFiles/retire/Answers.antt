use Rattle.std.proofs.Common.{◌≡◌, ◌∙◌, ap}
use Rattle.pipes_edge.specs.HostFiles.{Tally}
use Rattle.pipes_edge.specs.HostSource.{HostReading}
use Rattle.pipes_edge.specs.ByName.{Counts, counts_in, raised_at}
use Rattle.pipes_edge.proofs.host_files.HostFilesFiles.retire.Goals as goal

pub returns-then-src-gt0-clause-faulty : goal.returns-then-src-gt0-clause-faulty
returns-then-src-gt0-clause-faulty g c = λ faulty.
    let host = c.args.self.now in
    let name : c.as_str.result.now ≡ c.args.src.name = c.as_str.ensures.value
    ∙ ap (λ (s : HostReading). s.name) c.src.view_is in
    let raised = c.raise.ensures.raised ∙ ap (raised_at (counts_in host.counts)) name in
    let tally : Counts → Tally = λ counts. record {
      counts = counts;
      failed_searches =
          host.failed_searches;
    } in
    ap tally raised
