use Rattle.std.proofs.Common.{◌∙◌, List, ℕ, ap}
use Rattle.pipes_edge.specs.ByName.{files_in, counts_in}
use Rattle.pipes_edge.specs.MemFiles.{Shelf, calls_in}
use Rattle.pipes_edge.proofs.FailingReads.{calls_in-push}
use Rattle.pipes_edge.proofs.mem_files.MemFiles.fail_at.Goals as goal

pub returns-clause-ok : goal.returns-clause-ok
returns-clause-ok c =
    let memory = c.args.self.now in
    let grown = ap calls_in c.in_ok-push.ensures.items ∙ calls_in-push memory.failing.items
    (record { name = c.in_ok-name.name; call = c.args.call }) in
    let named = rw c.in_ok-name.ensures.ok at grown in
    let shelf : (List ℕ → List ℕ) → Shelf = λ failing. record {
      files = files_in memory.files;
      failing = failing;
      counts = counts_in memory.counts;
    } in
    ap shelf named
