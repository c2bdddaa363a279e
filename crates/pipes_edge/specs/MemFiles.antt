-- Files in memory, as their callers see them.
use Rattle.std.specs.Prelude.{ℕ, List, [], IsSome, map, filter, string_bytes}
use Rattle.std.specs.Str.{bytes_eq}
use Rattle.pipes_edge.specs.declared.mem_files.FailingRead.{FailingRead}
use Rattle.pipes_edge.specs.declared.mem_files.MemFiles.{MemFiles}
use Rattle.pipes_edge.specs.ByName.{Counts, no_counts, files_in, counts_in, count_at}
use Rattle.pipes_edge.specs.Outside.{Names, no_files}

-- the names and their bytes, under each name the reads of a source that fail, counted from 1, and
-- the counts of faults
pub record Shelf : Type 0 where
  pub files : Names
  pub failing : List ℕ → List ℕ
  pub counts : Counts

-- no file, no read that fails and no count
abbrev pub empty_shelf : Shelf
empty_shelf = record { files = no_files; failing = λ name. []; counts = no_counts }

-- the calls listed under a name
abbrev pub calls_in : List FailingRead → List ℕ → List ℕ
calls_in reads name = map (λ read. read.call)
    (filter (λ read. bytes_eq (string_bytes read.name) name) reads)

-- what a MemFiles shows
abbrev pub shelf_of : MemFiles → Shelf
shelf_of memory = record {
  files = files_in memory.files;
  failing = calls_in memory.failing.items;
  counts = counts_in memory.counts;
}

-- the count of faults under a name
abbrev pub faults_of : MemFiles → List ℕ → ℕ
faults_of memory = count_at (shelf_of memory).counts

-- the count under the name is kept
abbrev pub IsKept : MemFiles → List ℕ → Type 0
IsKept memory name = IsSome ((shelf_of memory).counts name)
