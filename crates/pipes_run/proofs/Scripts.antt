-- A run, from what its script and its sources gave.
use Rattle.std.proofs.Common.{◌≡◌, ◌⊎◌, ℕ, ◌≤◌, List, [], true, false, Option, Some, None, Result}
use Rattle.std.proofs.Common.{Ok, Err, refl, sym, subst, ◌∙◌, inl, inr}
use Rattle.std.proofs.KnownBytes.{Appends-nil}
use Rattle.pipes_edge.specs.Outside.{Names, NoneFalls}
use Rattle.pipes_edge.specs.Causes.{Rose}
use Rattle.pipes_output.specs.declared.form.Form.{Form}
use Rattle.pipes_run.specs.Errand.{Run}
use Rattle.pipes_query.specs.declared.query.Query.{Query}
use Rattle.pipes_error.specs.Fault.{Fault, Words, QueryText, QueryType, DerivationText, Unbuilt}
use Rattle.pipes_error.specs.Fault.{Missing, ReadFile, ReadSource, Row, Limit, Write, Memory}
use Rattle.pipes_time.specs.Results.{◌>>=◌}
use Rattle.pipes_run.specs.Asked.{Job, RunOver, arrivals_in, run_job, is_empty_script}
use Rattle.pipes_run.specs.Outcome.{FaultCounts, DoesAsked, HasCallCause, RanAfter}
use Rattle.pipes_run.specs.Running.{RanOver, HasCauseOver, IsOfScript, IsOfRun}
use Rattle.pipes_run.specs.Seen.{IsFree, IsReadOf}
use Rattle.pipes_run.proofs.Causes.{rose_before}
use Rattle.pipes_run.proofs.Composing.{quiet_of, after_by}
use Rattle.pipes_run.proofs.Running.{free_asked}

asked_by : (name script : List ℕ) (form : Form) (files : Names) (query : Query)
    (given : Result (Unit {0}) Fault) → is_empty_script files script ≡ given
    → run_job script form files query ≡ (given >>= λ one. arrivals_in files query.sources
    >>= λ arrivals. Ok (RunOver form query arrivals))
asked_by name script form files query given is = rw is refl

-- ---- the script was refused

not_words : (fault : Fault) → IsOfScript fault → Some fault ≡ Some Words → ⊥
not_words Words h e = absurd h
not_words (QueryText r) h e = cc
not_words (QueryType r) h e = cc
not_words (DerivationText file r) h e = cc
not_words Unbuilt h e = cc
not_words (Missing name) h e = cc
not_words (ReadFile name) h e = cc
not_words (ReadSource name) h e = cc
not_words (Row source line why) h e = cc
not_words (Limit source line) h e = cc
not_words Write h e = cc
not_words Memory h e = cc

script_cause : (name script : List ℕ) (form : Form) (before now : FaultCounts) (fault : Fault)
    → IsOfScript fault → IsReadOf script before.files now.files fault
    → HasCallCause (Ok (Run name script form)) before now (Some fault)
script_cause name script form before now (ReadFile file) of cause = (
  subst (λ (f : List ℕ). Rose (before.files f) (now.files f)) (sym cause.0) cause.1,
  inr (inl cause.0),
)
script_cause name script form before now Words of cause = tt
script_cause name script form before now (QueryText r) of cause = tt
script_cause name script form before now (QueryType r) of cause = tt
script_cause name script form before now (DerivationText file r) of cause = tt
script_cause name script form before now Unbuilt of cause = tt
script_cause name script form before now (Missing file) of cause = tt
script_cause name script form before now (ReadSource file) of cause = absurd of
script_cause name script form before now (Row source line why) of cause = tt
script_cause name script form before now (Limit source line) of cause = tt
script_cause name script form before now Write of cause = absurd of
script_cause name script form before now Memory of cause = tt

refused_asked : (fault : Fault) → IsOfScript fault → DoesAsked (Err fault) (Some fault) []
refused_asked Words h = absurd h
refused_asked (QueryText r) h = absurd h
refused_asked (QueryType r) h = absurd h
refused_asked (DerivationText file r) h = absurd h
refused_asked Unbuilt h = (refl, refl)
refused_asked (Missing name) h = (refl, refl)
refused_asked (ReadFile name) h = refl
refused_asked (ReadSource name) h = absurd h
refused_asked (Row source line why) h = absurd h
refused_asked (Limit source line) h = absurd h
refused_asked Write h = absurd h
refused_asked Memory h = refl

pub script_refused : (name script : List ℕ) (form : Form) (query : Query) (known : Option Names)
    (before now : FaultCounts) (written : Option (List ℕ)) (fault : Fault)
    → IsOfScript fault → IsReadOf script before.files now.files fault
    → ((files : Names) → known ≡ Some files → (is_empty_script files script ≡ Err fault)
    ⊎ IsFree fault)
    → RanAfter (Run name script form) query known before now written written (Some fault)
script_refused name script form query known before now written fault of cause gives =
    after_by (Run name script form) query known before now written written (Some fault) []
    (λ files. run_job script form files query) (λ files. refl) (λ files job e. e)
    (Appends-nil written) (not_words fault of)
    (script_cause name script form before now fault of cause) (quiet_of fault)
    (λ files tells. does files (gives files tells))
  where
    does : (files : Names) → (is_empty_script files script ≡ Err fault) ⊎ IsFree fault
        → DoesAsked (run_job script form files query) (Some fault) []
    does files (inl is) = subst (λ (asked : Result Job Fault). DoesAsked asked (Some fault) [])
        (sym (asked_by name script form files query (Err fault) is)) (refused_asked fault of)
    does files (inr free) = free_asked (run_job script form files query) fault free

-- ---- the script is empty

run_not_words : (fault : Option Fault) → IsOfRun fault → fault ≡ Some Words → ⊥
run_not_words fault of e = subst (λ (f : Option Fault). IsOfRun f) e of

run_cause : (name script : List ℕ) (form : Form) (before mid now : FaultCounts)
    (fault : Option Fault)
    → NoneFalls before.files mid.files → before.searches ≤ mid.searches → before.out ≡ mid.out
    → HasCauseOver mid now fault → HasCallCause (Ok (Run name script form)) before now fault
run_cause name script form before mid now (Some (ReadFile file)) later searches same cause = (
  rose_before (before.files file) (mid.files file) (now.files file) (later file) cause.0,
  inr (inr (rose_before before.searches mid.searches now.searches searches cause.1)),
)
run_cause name script form before mid now (Some (ReadSource file)) later searches same cause =
    rose_before (before.files file) (mid.files file) (now.files file) (later file) cause
run_cause name script form before mid now (Some Write) later searches same cause =
    subst (λ (n : ℕ). Rose n now.out) (sym same) cause
run_cause name script form before mid now (Some Words) later searches same cause = tt
run_cause name script form before mid now (Some (QueryText r)) later searches same cause = tt
run_cause name script form before mid now (Some (QueryType r)) later searches same cause = tt
run_cause name script form before mid now (Some (DerivationText file r)) later searches same cause =
    tt
run_cause name script form before mid now (Some Unbuilt) later searches same cause = tt
run_cause name script form before mid now (Some (Missing file)) later searches same cause = tt
run_cause name script form before mid now (Some (Row source line why)) later searches same cause =
    tt
run_cause name script form before mid now (Some (Limit source line)) later searches same cause = tt
run_cause name script form before mid now (Some Memory) later searches same cause = tt
run_cause name script form before mid now None later searches same cause = tt

-- the script is empty, and the query was run
pub script_run : (name script : List ℕ) (form : Form) (query : Query)
    (known mid_known : Option Names) (before mid now : FaultCounts) (first last : Option (List ℕ))
    (fault : Option Fault) → mid_known ≡ known
    → NoneFalls before.files mid.files → before.searches ≤ mid.searches → before.out ≡ mid.out
    → ((files : Names) → known ≡ Some files → is_empty_script files script ≡ Ok tt)
    → RanOver form query mid_known mid now first last fault
    → RanAfter (Run name script form) query known before now first last fault
script_run name script form query known mid_known before mid now first last fault same later
    searches out empty ran =
    after_by (Run name script form) query known before now first last fault ran.wrote
    (λ files. run_job script form files query) (λ files. refl) (λ files job e. e) ran.appended
    (run_not_words fault ran.served)
    (run_cause name script form before mid now fault later searches out ran.cause) ran.quiet
    (λ files tells. subst (λ (asked : Result Job Fault). DoesAsked asked fault ran.wrote)
    (sym (asked_by name script form files query (Ok tt) (empty files tells)))
    (ran.does files (same ∙ tells)))
