-- A run over the sources of a query, as a step of a call.
use Rattle.std.proofs.Common.{◌≡◌, ◌⊎◌, ℕ, zero, suc, ◌<◌, List, [], ◌∷◌, length, map, get_or}
use Rattle.std.proofs.Common.{slice_get, Option, Some, None, Result, Ok, Err, refl, sym, subst, ◌∙◌}
use Rattle.std.proofs.Common.{ap, inl, inr, arith}
use Rattle.std.specs.List.{All}
use Rattle.std.specs.Io.KnownBytes.{Appends}
use Rattle.std.proofs.KnownBytes.{Appends-nil}
use Rattle.pipes_edge.specs.Causes.{Rose}
use Rattle.pipes_edge.specs.Outside.{Names, NoneFalls}
use Rattle.pipes_window.specs.declared.item.Item.{Item}
use Rattle.pipes_output.specs.declared.form.Form.{Form}
use Rattle.pipes_feed.specs.declared.reason.Reason.{Reason}
use Rattle.pipes_feed.specs.declared.reason.Reason.TheVariants as reason
use Rattle.pipes_feed.specs.Items.{Items, in_order}
use Rattle.pipes_query.specs.declared.query.Query.{Query}
use Rattle.pipes_query.specs.declared.query.SourceDecl.{SourceDecl}
use Rattle.pipes_error.specs.Fault.{Fault, Words, QueryText, QueryType, DerivationText, Unbuilt}
use Rattle.pipes_error.specs.Fault.{Missing, ReadFile, ReadSource, Row, Limit, Write, Memory}
use Rattle.pipes_inline.specs.declared.RunFault.{RunFault}
use Rattle.pipes_inline.specs.declared.RunFault.TheVariants as run
use Rattle.pipes_inline.specs.Ran.{DoesRun, DidRun, HasRunCause, AreArrivals}
use Rattle.pipes_inline.specs.Ran as ran
use Rattle.pipes_time.specs.Results.{◌>>=◌}
use Rattle.pipes_run.specs.Asked.{Job, RunOver, arrivals_in}
use Rattle.pipes_run.specs.Outcome.{StoppedAt, IsFileOf, Does, DoesAsked, FaultCounts}
use Rattle.pipes_run.specs.Outcome.{WritesNothing}
use Rattle.pipes_run.specs.Running.{RanOver, HasCauseOver, IsOfRun, IsNamed, HasSource, FindsNot}
use Rattle.pipes_run.specs.Running.{IsOfSearch, IsSearchCause}
use Rattle.pipes_run.specs.Seen.{IsFree}
use Rattle.pipes_run.proofs.Causes.{rose_before}
use Rattle.pipes_run.proofs.Nothing.{does_nothing}
use Rattle.pipes_run.proofs.Prefixes.{prefix_whole}

-- ---- the source of a fault, by its name

stopped-named : (ss : List SourceDecl) (others : List Items) (taken : List (List Item)) (i : ℕ)
    (s : SourceDecl) (why : Reason) → slice_get ss i ≡ Some s → ran.StoppedAt others taken i why
    → StoppedAt ss others taken s.name why
stopped-named [] others taken i s why is h = absurd (cc)
stopped-named (r ∷ ss) [] taken i s why is h = let e = h.1 in absurd (cc)
stopped-named (r ∷ ss) (a ∷ others) [] i s why is h = let e = h.3 in absurd (cc)
stopped-named (r ∷ ss) (a ∷ others) (t ∷ ts) zero s why is h =
    let same : r ≡ s = cc in
    let first = h.1 in
    let own : a ≡ h.0 = cc in
    let all = h.3 in
    let got : t ≡ in_order h.0.list = cc in
    inl (
      ap (λ (d : SourceDecl). d.name) same,
      ap (λ (x : Items). x.end) own ∙ h.2,
      got ∙ ap (λ (x : Items). in_order x.list) (sym own),
    )
stopped-named (r ∷ ss) (a ∷ others) (t ∷ ts) (suc i) s why is h =
    inr (stopped-named ss others ts i s why is h)

file-of : (ss : List SourceDecl) (i : ℕ) (s : SourceDecl) → slice_get ss i ≡ Some s
    → IsFileOf ss s.file
file-of [] i s is = absurd (cc)
file-of (r ∷ ss) zero s is = let same : r ≡ s = cc in inl (ap (λ (d : SourceDecl). d.file) same)
file-of (r ∷ ss) (suc i) s is = inr (file-of ss i s is)

run-does : (form : Form) (query : Query) (others : List Items) (fault : RunFault) (named : Fault)
    (bytes : List ℕ) → IsNamed query.sources fault named
    → DoesRun form query others (Some fault) bytes
    → Does (RunOver form query others) (Some named) bytes
run-does form query others (run.Row i line why) named bytes (inl n) h =
    subst (λ (f : Fault). Does (RunOver form query others) (Some f) bytes) (sym n.2) (
      h.0,
      h.1,
      stopped-named query.sources others h.0 i n.0 (reason.Row line why) n.1 h.2,
      h.3,
    )
run-does form query others (run.Row i line why) named bytes (inr n) h =
    subst (λ (f : Fault). Does (RunOver form query others) (Some f) bytes) (sym n)
    (h.0, h.1, prefix_whole form query h.0 bytes h.3)
run-does form query others (run.Limit i line) named bytes (inl n) h =
    subst (λ (f : Fault). Does (RunOver form query others) (Some f) bytes) (sym n.2) (
      h.0,
      h.1,
      stopped-named query.sources others h.0 i n.0 (reason.Limit line) n.1 h.2,
      h.3,
    )
run-does form query others (run.Limit i line) named bytes (inr n) h =
    subst (λ (f : Fault). Does (RunOver form query others) (Some f) bytes) (sym n)
    (h.0, h.1, prefix_whole form query h.0 bytes h.3)
run-does form query others (run.Read i) named bytes (inl n) h =
    subst (λ (f : Fault). Does (RunOver form query others) (Some f) bytes) (sym n.2)
    (h.0, h.1, file-of query.sources i n.0 n.1, h.2)
run-does form query others (run.Read i) named bytes (inr n) h =
    subst (λ (f : Fault). Does (RunOver form query others) (Some f) bytes) (sym n)
    (h.0, h.1, prefix_whole form query h.0 bytes h.2)
run-does form query others run.Write named bytes n h =
    subst (λ (f : Fault). Does (RunOver form query others) (Some f) bytes) (sym n) h
run-does form query others run.Memory named bytes n h =
    subst (λ (f : Fault). Does (RunOver form query others) (Some f) bytes) (sym n) h

-- a free fault is known of anything, before anything was written
pub free_asked : (asked : Result Job Fault) (fault : Fault) → IsFree fault
    → DoesAsked asked (Some fault) []
free_asked (Ok job) fault h = does_nothing job fault h
free_asked (Err refused) Memory h = refl
free_asked (Err refused) (ReadFile name) h = refl
free_asked (Err refused) Words h = absurd h
free_asked (Err refused) (QueryText r) h = absurd h
free_asked (Err refused) (QueryType r) h = absurd h
free_asked (Err refused) (DerivationText file r) h = absurd h
free_asked (Err refused) Unbuilt h = absurd h
free_asked (Err refused) (Missing name) h = absurd h
free_asked (Err refused) (ReadSource name) h = absurd h
free_asked (Err refused) (Row source line why) h = absurd h
free_asked (Err refused) (Limit source line) h = absurd h
free_asked (Err refused) Write h = absurd h

-- ---- what a named fault is

named-run : (ss : List SourceDecl) (fault : RunFault) (named : Fault) → IsNamed ss fault named
    → IsOfRun (Some named)
named-run ss (run.Row i line why) named (inl n) =
    subst (λ (f : Fault). IsOfRun (Some f)) (sym n.2) tt
named-run ss (run.Row i line why) named (inr n) = subst (λ (f : Fault). IsOfRun (Some f)) (sym n) tt
named-run ss (run.Limit i line) named (inl n) = subst (λ (f : Fault). IsOfRun (Some f)) (sym n.2) tt
named-run ss (run.Limit i line) named (inr n) = subst (λ (f : Fault). IsOfRun (Some f)) (sym n) tt
named-run ss (run.Read i) named (inl n) = subst (λ (f : Fault). IsOfRun (Some f)) (sym n.2) tt
named-run ss (run.Read i) named (inr n) = subst (λ (f : Fault). IsOfRun (Some f)) (sym n) tt
named-run ss run.Write named n = subst (λ (f : Fault). IsOfRun (Some f)) (sym n) tt
named-run ss run.Memory named n = subst (λ (f : Fault). IsOfRun (Some f)) (sym n) tt

named-quiet : (ss : List SourceDecl) (fault : RunFault) (named : Fault) (wrote : List ℕ)
    → IsNamed ss fault named → WritesNothing (Some named) wrote
named-quiet ss (run.Row i line why) named wrote (inl n) =
    subst (λ (f : Fault). WritesNothing (Some f) wrote) (sym n.2) tt
named-quiet ss (run.Row i line why) named wrote (inr n) =
    subst (λ (f : Fault). WritesNothing (Some f) wrote) (sym n) tt
named-quiet ss (run.Limit i line) named wrote (inl n) =
    subst (λ (f : Fault). WritesNothing (Some f) wrote) (sym n.2) tt
named-quiet ss (run.Limit i line) named wrote (inr n) =
    subst (λ (f : Fault). WritesNothing (Some f) wrote) (sym n) tt
named-quiet ss (run.Read i) named wrote (inl n) =
    subst (λ (f : Fault). WritesNothing (Some f) wrote) (sym n.2) tt
named-quiet ss (run.Read i) named wrote (inr n) =
    subst (λ (f : Fault). WritesNothing (Some f) wrote) (sym n) tt
named-quiet ss run.Write named wrote n =
    subst (λ (f : Fault). WritesNothing (Some f) wrote) (sym n) tt
named-quiet ss run.Memory named wrote n =
    subst (λ (f : Fault). WritesNothing (Some f) wrote) (sym n) tt

-- the source of a fault is one of the query's
pub has-source : (before now : List ℕ) (out_before out_now count : ℕ) (fault : RunFault)
    → length now ≡ count → HasRunCause before now out_before out_now (Some fault)
    → HasSource count fault
has-source before now out_before out_now count (run.Row i line why) e h = omega (arith, e, h)
has-source before now out_before out_now count (run.Limit i line) e h = omega (arith, e, h)
has-source before now out_before out_now count (run.Read i) e h = omega (arith, e, h.0)
has-source before now out_before out_now count run.Write e h = tt
has-source before now out_before out_now count run.Memory e h = tt

-- A read fails where the count of its file rose when its source came back.
pub named-cause : (ss : List SourceDecl) (fault : RunFault) (named : Fault)
    (before now : FaultCounts) (mid : List ℕ → ℕ) (first last : List ℕ)
    → IsNamed ss fault named → NoneFalls before.files mid
    → ((i : ℕ) (s : SourceDecl) → slice_get ss i ≡ Some s → Rose (get_or first i 0)
    (get_or last i 0) → Rose (mid s.file) (now.files s.file))
    → HasRunCause first last before.out now.out (Some fault)
    → HasCauseOver before now (Some named)
named-cause ss (run.Row i line why) named before now mid first last (inl n) later rose h =
    subst (λ (f : Fault). HasCauseOver before now (Some f)) (sym n.2) tt
named-cause ss (run.Row i line why) named before now mid first last (inr n) later rose h =
    subst (λ (f : Fault). HasCauseOver before now (Some f)) (sym n) tt
named-cause ss (run.Limit i line) named before now mid first last (inl n) later rose h =
    subst (λ (f : Fault). HasCauseOver before now (Some f)) (sym n.2) tt
named-cause ss (run.Limit i line) named before now mid first last (inr n) later rose h =
    subst (λ (f : Fault). HasCauseOver before now (Some f)) (sym n) tt
named-cause ss (run.Read i) named before now mid first last (inl n) later rose h =
    subst (λ (f : Fault). HasCauseOver before now (Some f)) (sym n.2)
    (rose_before (before.files n.0.file) (mid n.0.file) (now.files n.0.file) (later n.0.file)
    (rose i n.0 n.1 h.1))
named-cause ss (run.Read i) named before now mid first last (inr n) later rose h =
    subst (λ (f : Fault). HasCauseOver before now (Some f)) (sym n) tt
named-cause ss run.Write named before now mid first last n later rose h =
    subst (λ (f : Fault). HasCauseOver before now (Some f)) (sym n) h
named-cause ss run.Memory named before now mid first last n later rose h =
    subst (λ (f : Fault). HasCauseOver before now (Some f)) (sym n) tt

-- ---- the sources were found, and the query was run over them

module _ (form : Form) (query : Query) (known : Option Names) (before now : FaultCounts)
    (first last : Option (List ℕ)) (lefts : List (Option (List ℕ)))
    (found : (files : Names) → known ≡ Some files → (others : List Items)
    × (arrivals_in files query.sources ≡ Ok others) × AreArrivals query.sources lefts others) where
  asked-by : (files : Names) (tells : known ≡ Some files) (fault : Option Fault)
      (wrote : List ℕ)
      → ((others : List Items) → AreArrivals query.sources lefts others
      → Does (RunOver form query others) fault wrote)
      → DoesAsked (arrivals_in files query.sources >>= λ arrivals. Ok (RunOver form query arrivals))
      fault wrote
  asked-by files tells fault wrote does =
      let own = found files tells in
      rw own.1 (does own.0 own.2)

  pub over-all : DidRun form query lefts first last None
      → RanOver form query known before now first last None
  over-all d = record {
    wrote = d.wrote;
    appended = d.appended;
    served = tt;
    cause = tt;
    quiet = tt;
    does = λ files tells. asked-by files tells None d.wrote (λ others are. d.does others are);
  }

  pub over-fault : (fault : RunFault) (named : Fault) → IsNamed query.sources fault named
      → DidRun form query lefts first last (Some fault) → HasCauseOver before now (Some named)
      → RanOver form query known before now first last (Some named)
  over-fault fault named n d cause = record {
    wrote = d.wrote;
    appended = d.appended;
    served = named-run query.sources fault named n;
    cause = cause;
    quiet = named-quiet query.sources fault named d.wrote n;
    does = λ files tells. asked-by files tells (Some named) d.wrote
        (λ others are. run-does form query others fault named d.wrote n (d.does others are));
  }

-- a source wasn't found
pub over-unfound : (form : Form) (query : Query) (known : Option Names)
    (before now : FaultCounts) (written : Option (List ℕ)) (fault : Fault)
    → FindsNot known query.sources before.files now.files before.searches now.searches fault
    → RanOver form query known before now written written (Some fault)
over-unfound form query known before now written fault f = record {
  wrote = [];
  appended = Appends-nil written;
  served = of fault f.of;
  cause = cause fault f.of f.cause;
  quiet = quiet fault f.of;
  does = λ files tells. does files (f.gives files tells);
}
  where
    of : (f : Fault) → IsOfSearch f → IsOfRun (Some f)
    of (ReadFile name) h = tt
    of Memory h = tt
    of Words h = absurd h
    of (QueryText r) h = absurd h
    of (QueryType r) h = absurd h
    of (DerivationText file r) h = absurd h
    of Unbuilt h = absurd h
    of (Missing name) h = tt
    of (ReadSource name) h = tt
    of (Row source line why) h = tt
    of (Limit source line) h = tt
    of Write h = tt

    cause : (f : Fault) → IsOfSearch f → IsSearchCause before.files now.files before.searches
        now.searches f → HasCauseOver before now (Some f)
    cause (ReadFile name) h c = c
    cause Memory h c = tt
    cause Words h c = tt
    cause (QueryText r) h c = tt
    cause (QueryType r) h c = tt
    cause (DerivationText file r) h c = tt
    cause Unbuilt h c = tt
    cause (Missing name) h c = tt
    cause (ReadSource name) h c = absurd h
    cause (Row source line why) h c = tt
    cause (Limit source line) h c = tt
    cause Write h c = absurd h

    quiet : (f : Fault) → IsOfSearch f → WritesNothing (Some f) []
    quiet (ReadFile name) h = refl
    quiet Memory h = tt
    quiet Words h = refl
    quiet (QueryText r) h = refl
    quiet (QueryType r) h = refl
    quiet (DerivationText file r) h = refl
    quiet Unbuilt h = refl
    quiet (Missing name) h = refl
    quiet (ReadSource name) h = tt
    quiet (Row source line why) h = tt
    quiet (Limit source line) h = tt
    quiet Write h = tt

    refused : (f : Fault) → IsOfSearch f → DoesAsked (Err f) (Some f) []
    refused (ReadFile name) h = refl
    refused Memory h = refl
    refused Words h = absurd h
    refused (QueryText r) h = absurd h
    refused (QueryType r) h = absurd h
    refused (DerivationText file r) h = absurd h
    refused Unbuilt h = absurd h
    refused (Missing name) h = (refl, refl)
    refused (ReadSource name) h = absurd h
    refused (Row source line why) h = absurd h
    refused (Limit source line) h = absurd h
    refused Write h = absurd h

    does : (files : Names) → (arrivals_in files query.sources ≡ Err fault) ⊎ IsFree fault
        → DoesAsked (arrivals_in files query.sources
        >>= λ arrivals. Ok (RunOver form query arrivals)) (Some fault) []
    does files (inl is) = rw is (refused fault f.of)
    does files (inr free) = free_asked (arrivals_in files query.sources
        >>= λ arrivals. Ok (RunOver form query arrivals)) fault free
