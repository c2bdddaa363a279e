-- What a command has done, from what its steps have done.
use Rattle.std.proofs.Common.{◌≡◌, ◌⊎◌, ℕ, ◌≤◌, List, [], Option, Some, None, Result, Ok, Err, refl}
use Rattle.std.proofs.Common.{sym, subst, ◌∙◌, inl, inr}
use Rattle.std.specs.Io.KnownBytes.{Appends}
use Rattle.std.proofs.KnownBytes.{Appends-nil}
use Rattle.pipes_edge.specs.Outside.{Names, NoneFalls}
use Rattle.pipes_edge.specs.Causes.{Rose}
use Rattle.pipes_run.specs.Errand.{Errand, Run, At, Check, Derive}
use Rattle.pipes_query.specs.declared.query.Query.{Query}
use Rattle.pipes_error.specs.Fault.{Fault, Words, QueryText, QueryType, DerivationText, Unbuilt}
use Rattle.pipes_error.specs.Fault.{Missing, ReadFile}
use Rattle.pipes_error.specs.Fault.{ReadSource, Row, Limit, Write, Memory}
use Rattle.pipes_run.specs.Asked.{Job, IsQueryFile, Asks, IsJobOf, query_name}
use Rattle.pipes_run.specs.Outcome.{FaultCounts, HasCallCause, WritesNothing, StopsFirst, Does}
use Rattle.pipes_run.specs.Outcome.{DoesAsked, IsEarly}
use Rattle.pipes_run.specs.Outcome.{RanErrand, RanAfter}
use Rattle.pipes_run.specs.Seen.{IsFree, IsOfQuery, IsReadOf}
use Rattle.pipes_run.proofs.Causes.{rose_before}
use Rattle.pipes_run.proofs.Nothing.{does_nothing}

pub quiet_of : (fault : Fault) → WritesNothing (Some fault) []
quiet_of Words = refl
quiet_of (QueryText r) = refl
quiet_of (QueryType r) = refl
quiet_of (DerivationText file r) = refl
quiet_of Unbuilt = refl
quiet_of (Missing name) = refl
quiet_of (ReadFile name) = refl
quiet_of (ReadSource name) = tt
quiet_of (Row source line why) = tt
quiet_of (Limit source line) = tt
quiet_of Write = tt
quiet_of Memory = tt

not_words : (fault : Fault) → IsOfQuery fault → Some fault ≡ Some Words → ⊥
not_words Words h e = absurd h
not_words (QueryText r) h e = cc
not_words (QueryType r) h e = cc
not_words (DerivationText file r) h e = cc
not_words Unbuilt h e = cc
not_words (Missing name) h e = cc
not_words (ReadFile name) h e = cc
not_words (ReadSource name) h e = cc
not_words (Row source line why) h e = cc
not_words (Limit source line) h e = cc
not_words Write h e = cc
not_words Memory h e = cc

pub stops : (fault : Fault) → IsFree fault → StopsFirst (Some fault) []
stops Words h = absurd h
stops (QueryText r) h = absurd h
stops (QueryType r) h = absurd h
stops (DerivationText file r) h = absurd h
stops Unbuilt h = absurd h
stops (Missing name) h = absurd h
stops (ReadFile name) h = refl
stops (ReadSource name) h = absurd h
stops (Row source line why) h = absurd h
stops (Limit source line) h = absurd h
stops Write h = absurd h
stops Memory h = refl

-- a decided fault of the query is what is asked for
asked_fault : (fault : Fault) → IsOfQuery fault → DoesAsked (Err fault) (Some fault) []
asked_fault Words h = absurd h
asked_fault (QueryText r) h = (refl, refl)
asked_fault (QueryType r) h = (refl, refl)
asked_fault (DerivationText file r) h = (refl, refl)
asked_fault Unbuilt h = absurd h
asked_fault (Missing name) h = (refl, refl)
asked_fault (ReadFile name) h = refl
asked_fault (ReadSource name) h = absurd h
asked_fault (Row source line why) h = absurd h
asked_fault (Limit source line) h = absurd h
asked_fault Write h = absurd h
asked_fault Memory h = refl

-- the query was not read
pub ran_refused : (errand : Errand) (known : Option Names) (before now : FaultCounts)
    (written : Option (List ℕ)) (fault : Fault) → IsOfQuery fault
    → HasCallCause (Ok errand) before now (Some fault)
    → ((files : Names) → known ≡ Some files → IsQueryFile (query_name errand)
    (files (query_name errand))
    (Err fault) ⊎ IsFree fault)
    → ((files : Names) (query : Query) → known ≡ Some files → IsQueryFile (query_name errand)
    (files (query_name errand)) (Ok query) → IsFree fault)
    → RanErrand errand known before now written written (Some fault)
ran_refused errand known before now written fault of cause gives only = record {
  wrote = [];
  appended = Appends-nil written;
  served = not_words fault of;
  cause = cause;
  quiet = quiet_of fault;
  does = λ files tells. does files (gives files tells);
  only = λ files job tells asks. only_job files job tells asks;
}
  where
    does : (files : Names) → IsQueryFile (query_name errand) (files (query_name errand))
        (Err fault)
        ⊎ IsFree fault
        → StopsFirst (Some fault) [] ⊎ ((job : Result Job Fault) × Asks errand files job
        × DoesAsked job (Some fault) [])
    does files (inr free) = inl (stops fault free)
    does files (inl holds) = inr (Err fault, (Err fault, holds, refl), asked_fault fault of)

    only_job : (files : Names) (job : Job) → known ≡ Some files → Asks errand files (Ok job)
        → Does job (Some fault) []
    only_job files job tells (Ok query, holds, is) = does_nothing job fault
        (only files query tells holds)
    only_job files job tells (Err refused, holds, is) = cc

-- the query was read, and the rest is done with it
pub ran_after : (errand : Errand) (query : Query) (known : Option Names)
    (before now : FaultCounts)
    (written_before written_now : Option (List ℕ)) (fault : Option Fault)
    → ((files : Names) → known ≡ Some files → IsQueryFile (query_name errand)
    (files (query_name errand))
    (Ok query))
    → ((files : Names) (other : Query) → known ≡ Some files → IsQueryFile (query_name errand)
    (files (query_name errand)) (Ok other) → query ≡ other)
    → RanAfter errand query known before now written_before written_now fault
    → RanErrand errand known before now written_before written_now fault
ran_after errand query known before now written_before written_now fault holds only ran = record {
  wrote = ran.wrote;
  appended = ran.appended;
  served = ran.served;
  cause = ran.cause;
  quiet = ran.quiet;
  does = λ files tells. does files tells (ran.does files tells);
  only = λ files job tells asks. only_job files job tells asks;
}
  where
    does : (files : Names) → known ≡ Some files → StopsFirst fault ran.wrote
        ⊎ ((job : Result Job Fault) × IsJobOf errand files query job
        × DoesAsked job fault ran.wrote)
        → StopsFirst fault ran.wrote
        ⊎ ((job : Result Job Fault) × Asks errand files job × DoesAsked job fault ran.wrote)
    does files tells (inl stopped) = inl stopped
    does files tells (inr w) = inr (w.0, (Ok query, holds files tells, w.1), w.2)

    only_job : (files : Names) (job : Job) → known ≡ Some files → Asks errand files (Ok job)
        → Does job fault ran.wrote
    only_job files job tells (Ok other, held, is) =
        ran.only files job tells (subst (λ (q : Query). IsJobOf errand files q (Ok job))
        (sym (only files other tells held)) is)
    only_job files job tells (Err refused, held, is) = cc

-- what a command does whose job the files alone decide
pub after_by : (errand : Errand) (query : Query) (known : Option Names)
    (before now : FaultCounts) (first last : Option (List ℕ)) (fault : Option Fault)
    (wrote : List ℕ) (asked : Names → Result Job Fault)
    → ((files : Names) → IsJobOf errand files query (asked files))
    → ((files : Names) (job : Job) → IsJobOf errand files query (Ok job) → Ok job ≡ asked files)
    → Appends first last wrote → (fault ≡ Some Words → ⊥)
    → HasCallCause (Ok errand) before now fault → WritesNothing fault wrote
    → ((files : Names) → known ≡ Some files → DoesAsked (asked files) fault wrote)
    → RanAfter errand query known before now first last fault
after_by errand query known before now first last fault wrote asked is unique appended served
    cause quiet does = record {
      wrote = wrote;
      appended = appended;
      served = served;
      cause = cause;
      quiet = quiet;
      does = λ files tells. inr (asked files, is files, does files tells);
      only = λ files job tells h. subst (λ (j : Result Job Fault). DoesAsked j fault wrote)
          (sym (unique files job h)) (does files tells);
    }

-- ---- the counts of a call whose first step reads its query

query_cause : (errand : Errand) (before now : FaultCounts) (fault : Fault) → IsOfQuery fault
    → IsReadOf (query_name errand) before.files now.files fault
    → HasCallCause (Ok errand) before now (Some fault)
query_cause (Run name script form) before now (ReadFile file) of cause =
    (subst (λ (f : List ℕ). Rose (before.files f) (now.files f)) (sym cause.0) cause.1, inl cause.0)
query_cause (At name t) before now (ReadFile file) of cause =
    (subst (λ (f : List ℕ). Rose (before.files f) (now.files f)) (sym cause.0) cause.1, tt)
query_cause (Check name) before now (ReadFile file) of cause =
    (subst (λ (f : List ℕ). Rose (before.files f) (now.files f)) (sym cause.0) cause.1, tt)
query_cause (Derive name derivation) before now (ReadFile file) of cause =
    (subst (λ (f : List ℕ). Rose (before.files f) (now.files f)) (sym cause.0) cause.1, tt)
query_cause errand before now Words of cause = tt
query_cause errand before now (QueryText r) of cause = tt
query_cause errand before now (QueryType r) of cause = tt
query_cause errand before now (DerivationText file r) of cause = tt
query_cause errand before now Unbuilt of cause = tt
query_cause errand before now (Missing name) of cause = tt
query_cause errand before now (ReadSource name) of cause = absurd of
query_cause errand before now (Row source line why) of cause = tt
query_cause errand before now (Limit source line) of cause = tt
query_cause errand before now Write of cause = absurd of
query_cause errand before now Memory of cause = tt

-- the query was not read
pub ran_unread : (errand : Errand) (known : Option Names) (before now : FaultCounts)
    (written : Option (List ℕ)) (fault : Fault) → IsOfQuery fault
    → IsReadOf (query_name errand) before.files now.files fault
    → ((files : Names) → known ≡ Some files → IsQueryFile (query_name errand)
    (files (query_name errand))
    (Err fault) ⊎ IsFree fault)
    → ((files : Names) (query : Query) → known ≡ Some files → IsQueryFile (query_name errand)
    (files (query_name errand)) (Ok query) → IsFree fault)
    → RanErrand errand known before now written written (Some fault)
ran_unread errand known before now written fault of cause gives only =
    ran_refused errand known before now written fault of (query_cause errand before now fault of
    cause) gives only

-- no memory was left for a buffer
pub ran_unstarted : (errand : Errand) (known : Option Names) (before now : FaultCounts)
    (written : Option (List ℕ)) → RanErrand errand known before now written written (Some Memory)
ran_unstarted errand known before now written = ran_refused errand known before now written Memory
    tt tt (λ files tells. inr tt) (λ files query tells holds. tt)

early_before : (errand : Errand) (name : List ℕ) (before mid now : ℕ) → before ≤ mid
    → IsEarly (Ok errand) name mid now → IsEarly (Ok errand) name before now
early_before (Run query script form) name before mid now later (inl h) = inl h
early_before (Run query script form) name before mid now later (inr (inl h)) = inr (inl h)
early_before (Run query script form) name before mid now later (inr (inr rose)) =
    inr (inr (rose_before before mid now later rose))
early_before (At query t) name before mid now later h = tt
early_before (Check query) name before mid now later h = tt
early_before (Derive query derivation) name before mid now later h = tt

cause_before : (errand : Errand) (before mid now : FaultCounts) (fault : Option Fault)
    → NoneFalls before.files mid.files → before.searches ≤ mid.searches → before.out ≡ mid.out
    → HasCallCause (Ok errand) mid now fault → HasCallCause (Ok errand) before now fault
cause_before errand before mid now (Some (ReadFile file)) later searches same cause = (
  rose_before (before.files file) (mid.files file) (now.files file) (later file) cause.0,
  early_before errand file before.searches mid.searches now.searches searches cause.1,
)
cause_before errand before mid now (Some (ReadSource file)) later searches same cause =
    rose_before (before.files file) (mid.files file) (now.files file) (later file) cause
cause_before errand before mid now (Some Write) later searches same cause =
    subst (λ (n : ℕ). Rose n now.out) (sym same) cause
cause_before errand before mid now (Some Words) later searches same cause = tt
cause_before errand before mid now (Some (QueryText r)) later searches same cause = tt
cause_before errand before mid now (Some (QueryType r)) later searches same cause = tt
cause_before errand before mid now (Some (DerivationText file r)) later searches same cause = tt
cause_before errand before mid now (Some Unbuilt) later searches same cause = tt
cause_before errand before mid now (Some (Missing file)) later searches same cause = tt
cause_before errand before mid now (Some (Row source line why)) later searches same cause = tt
cause_before errand before mid now (Some (Limit source line)) later searches same cause = tt
cause_before errand before mid now (Some Memory) later searches same cause = tt
cause_before errand before mid now None later searches same cause = tt

-- the query was read, and the rest is done with it from then on
pub ran_read : (errand : Errand) (query : Query) (known mid_known : Option Names)
    (before mid now : FaultCounts) (first last : Option (List ℕ)) (fault : Option Fault)
    → mid_known ≡ known → NoneFalls before.files mid.files → before.searches ≤ mid.searches
    → before.out ≡ mid.out
    → ((files : Names) → known ≡ Some files → IsQueryFile (query_name errand)
    (files (query_name errand))
    (Ok query))
    → ((files : Names) (other : Query) → known ≡ Some files → IsQueryFile (query_name errand)
    (files (query_name errand)) (Ok other) → query ≡ other)
    → RanAfter errand query mid_known mid now first last fault
    → RanErrand errand known before now first last fault
ran_read errand query known mid_known before mid now first last fault same later searches out holds
    only ran = ran_after errand query known before now first last fault holds only (record {
      wrote = ran.wrote;
      appended = ran.appended;
      served = ran.served;
      cause = cause_before errand before mid now fault later searches out ran.cause;
      quiet = ran.quiet;
      does = λ files tells. ran.does files (same ∙ tells);
      only = λ files job tells. ran.only files job (same ∙ tells);
    })
