-- What the steps of a run do.
use Rattle.std.specs.Prelude.{◌≡◌, ◌⊎◌, ℕ, ◌<◌, List, [], ◌∷◌, Option, Some, Result, Ok, Err}
use Rattle.std.specs.Prelude.{IsSome, slice_get, ⊤}
use Rattle.std.specs.Io.KnownBytes.{Appends}
use Rattle.pipes_edge.specs.Causes.{Rose}
use Rattle.pipes_edge.specs.declared.FindFault.{FindFault}
use Rattle.pipes_edge.specs.declared.FindFault.TheVariants as find
use Rattle.pipes_edge.specs.Outside.{Names}
use Rattle.pipes_output.specs.declared.form.Form.{Form}
use Rattle.pipes_query.specs.declared.query.Query.{Query}
use Rattle.pipes_query.specs.declared.query.SourceDecl.{SourceDecl}
use Rattle.pipes_error.specs.declared.Fault.{Fault as Kept}
use Rattle.pipes_error.specs.Fault.{Fault, Words, QueryText, QueryType, Unbuilt, Missing, ReadFile}
use Rattle.pipes_error.specs.Fault.{ReadSource, Row, Limit, Write, Memory, fault_seen}
use Rattle.pipes_inline.specs.declared.RunFault.{RunFault}
use Rattle.pipes_inline.specs.declared.RunFault.TheVariants as run
use Rattle.pipes_time.specs.Results.{◌>>=◌}
use Rattle.pipes_run.specs.Asked.{RunOver, arrivals_in}
use Rattle.pipes_run.specs.Outcome.{FaultCounts, DoesAsked, WritesNothing}
use Rattle.pipes_run.specs.Seen.{IsFree}

-- a fault of the reading of a script
abbrev pub IsOfScript : Fault → Type 0
IsOfScript Unbuilt = ⊤
IsOfScript (Missing name) = ⊤
IsOfScript (ReadFile name) = ⊤
IsOfScript Memory = ⊤
IsOfScript fault = ⊥

-- the script is empty, or it was refused as the files decide, or by a free fault
abbrev pub GivesScript : Result (Unit {0}) Kept → Result (Unit {0}) Fault → Type 0
GivesScript (Ok u) script = script ≡ Ok u
GivesScript (Err fault) script = (script ≡ Err (fault_seen fault)) ⊎ IsFree (fault_seen fault)

-- the fault's source is one of so many
abbrev pub HasSource : ℕ → RunFault → Type 0
HasSource count (run.Row source line why) = source < count
HasSource count (run.Limit source line) = source < count
HasSource count (run.Read source) = source < count
HasSource count run.Write = ⊤
HasSource count run.Memory = ⊤

-- The fault of a run, with the name of its source or of that one's file in place of its number; out
-- of memory stands for each.
abbrev pub IsNamed : List SourceDecl → RunFault → Fault → Type 0
IsNamed sources (run.Row source line why) fault = ((s : SourceDecl)
    × (slice_get sources source ≡ Some s) × (fault ≡ Row s.name line why)) ⊎ (fault ≡ Memory)
IsNamed sources (run.Limit source line) fault = ((s : SourceDecl)
    × (slice_get sources source ≡ Some s) × (fault ≡ Limit s.name line)) ⊎ (fault ≡ Memory)
IsNamed sources (run.Read source) fault = ((s : SourceDecl)
    × (slice_get sources source ≡ Some s) × (fault ≡ ReadSource s.file)) ⊎ (fault ≡ Memory)
IsNamed sources run.Write fault = fault ≡ Write
IsNamed sources run.Memory fault = fault ≡ Memory

-- a source's file fails before the run where a search failed, and in the run where its count rose;
-- a write where the output's count did
abbrev pub HasCauseOver : FaultCounts → FaultCounts → Option Fault → Type 0
HasCauseOver before now (Some (ReadFile name)) = Rose (before.files name) (now.files name)
    × Rose before.searches now.searches
HasCauseOver before now (Some (ReadSource file)) = Rose (before.files file) (now.files file)
HasCauseOver before now (Some Write) = Rose before.out now.out
HasCauseOver before now fault = ⊤

-- a fault of the search for a source
abbrev pub IsOfSearch : Fault → Type 0
IsOfSearch (Missing name) = ⊤
IsOfSearch (ReadFile name) = ⊤
IsOfSearch Memory = ⊤
IsOfSearch fault = ⊥

-- the fault of a search for the file with this name
abbrev pub IsUnfound : List ℕ → FindFault → Fault → Type 0
IsUnfound file find.Missing fault = (fault ≡ Missing file) ⊎ (fault ≡ Memory)
IsUnfound file find.Failed fault = (fault ≡ ReadFile file) ⊎ (fault ≡ Memory)
IsUnfound file find.Memory fault = fault ≡ Memory

-- a search fails only where the count of its file's name rose, and that of failed searches
abbrev pub IsSearchCause : (List ℕ → ℕ) → (List ℕ → ℕ) → ℕ → ℕ → Fault → Type 0
IsSearchCause before now searches_before searches_now (ReadFile name) =
    Rose (before name) (now name) × Rose searches_before searches_now
IsSearchCause before now searches_before searches_now fault = ⊤

-- The source was found under its file's name: it has that file's bytes left, and has had no fault
-- since.
pub record IsFound {S : Type 0} (left : S → Option (List ℕ)) (faults found_at : S → ℕ)
    (source_name : S → List ℕ) (keeps : List ℕ → Type 0) (known : Option Names) (s : SourceDecl)
    (src : S) : Type 0 where
  pub named : source_name src ≡ s.file
  pub fresh : faults src ≡ found_at src
  pub kept : keeps s.file
  pub whole : (files : Names) → known ≡ Some files
      → IsSome (files s.file) × (left src ≡ files s.file)

-- so were all, one for each
abbrev pub AllFound : {S : Type 0} → (S → Option (List ℕ)) → (S → ℕ) → (S → ℕ)
    → (S → List ℕ) → (List ℕ → Type 0) → Option Names → List SourceDecl → List S → Type 0
AllFound left faults found_at source_name keeps known [] [] = ⊤
AllFound left faults found_at source_name keeps known (s ∷ ss) (src ∷ srcs) =
    IsFound left faults found_at source_name keeps known s src
    × AllFound left faults found_at source_name keeps known ss srcs
AllFound left faults found_at source_name keeps known _ _ = ⊥

-- the first of the sources that was not found: its file is missing, or the search failed
pub record FindsNot (known : Option Names) (sources : List SourceDecl)
    (before now : List ℕ → ℕ) (searches_before searches_now : ℕ) (fault : Fault) : Type 0 where
  pub of : IsOfSearch fault
  pub cause : IsSearchCause before now searches_before searches_now fault
  pub gives : (files : Names) → known ≡ Some files
      → (arrivals_in files sources ≡ Err fault) ⊎ IsFree fault

-- a fault of a run over its sources
abbrev pub IsOfRun : Option Fault → Type 0
IsOfRun (Some Words) = ⊥
IsOfRun (Some (QueryText refusal)) = ⊥
IsOfRun (Some (QueryType refusal)) = ⊥
IsOfRun (Some Unbuilt) = ⊥
IsOfRun fault = ⊤

-- a run over the sources of a query
pub record RanOver (form : Form) (query : Query) (known : Option Names) (before now : FaultCounts)
    (written_before written_now : Option (List ℕ)) (fault : Option Fault) : Type 0 where
  pub wrote : List ℕ
  pub appended : Appends written_before written_now wrote
  pub served : IsOfRun fault
  pub cause : HasCauseOver before now fault
  pub quiet : WritesNothing fault wrote
  pub does : (files : Names) → known ≡ Some files → DoesAsked (arrivals_in files query.sources
      >>= λ arrivals. Ok (RunOver form query arrivals)) fault wrote
