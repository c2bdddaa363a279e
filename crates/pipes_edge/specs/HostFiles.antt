-- Files and sources of the system, by the faults that were counted.
use Rattle.std.specs.Prelude.{ℕ}
use Rattle.pipes_edge.specs.declared.host_files.HostFiles.{HostFiles}
use Rattle.pipes_edge.specs.ByName.{Counts, no_counts, counts_in}

-- the names whose count of faults is kept and these counts, and how often a search has failed
pub record Tally : Type 0 where
  pub counts : Counts
  pub failed_searches : ℕ

-- no count, and no search that failed
abbrev pub no_tally : Tally
no_tally = record { counts = no_counts; failed_searches = 0 }

module _ {R S : Type 0} where
  -- the faults that a HostFiles has counted
  abbrev pub tally_of : HostFiles R S → Tally
  tally_of host = record { counts = counts_in host.counts; failed_searches = host.failed_searches }
