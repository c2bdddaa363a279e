-- A derivation, from what its file gave and from what was written.
use Rattle.std.proofs.Common.{◌≡◌, ◌⊎◌, ℕ, ◌<◌, List, [], length, take, Option, Some, None, Result}
use Rattle.std.proofs.Common.{Ok, Err, OnOk, OnErr, IsErrOf, refl, sym, subst, ap, ◌∙◌, inl, inr}
use Rattle.std.proofs.Common.{arith}
use Rattle.std.specs.Io.KnownBytes.{Appends}
use Rattle.std.proofs.KnownBytes.{Appends-nil}
use Rattle.pipes_edge.specs.Outside.{Names}
use Rattle.pipes_edge.specs.Causes.{Rose}
use Rattle.pipes_buffer.specs.Pieces.{ReadsUpTo, AppendsPrefix}
use Rattle.pipes_buffer.specs.declared.IoFault.{IoFault}
use Rattle.pipes_buffer.specs.declared.IoFault.TheVariants as io
use Rattle.pipes_token.specs.declared.refusal.TextRefusal.{TextRefusal}
use Rattle.pipes_reader.specs.Texts.{too_long, tokens}
use Rattle.pipes_run.specs.Errand.{Derive}
use Rattle.pipes_query.specs.declared.query.Query.{Query}
use Rattle.pipes_derivation.specs.declared.derivation.Derivation.{Derivation}
use Rattle.pipes_derivation.specs.Texts.{IsFileOfDerivation, IsRefusedDerivation}
use Rattle.pipes_error.specs.declared.Fault.{Fault as Kept}
use Rattle.pipes_error.specs.Fault.{Fault, Words, QueryText, QueryType, DerivationText, Unbuilt}
use Rattle.pipes_error.specs.Fault.{Missing, ReadFile, ReadSource, Row, Limit, Write, Memory}
use Rattle.pipes_error.specs.Fault.{fault_seen}
use Rattle.pipes_time.specs.Results.{◌>>=◌}
use Rattle.pipes_run.specs.Asked.{Job, DeriveBy, IsDerivationFile, IsJobOf}
use Rattle.pipes_run.specs.Outcome.{FaultCounts, IsVerdict, Does, DoesAsked, HasCallCause}
use Rattle.pipes_run.specs.Outcome.{WritesNothing, StopsFirst, RanAfter}
use Rattle.pipes_run.specs.Seen.{ReadsFile, IsFree, IsReadOf, IsOfDerivation, GivesDerivation}
use Rattle.pipes_run.specs.Seen.{GivesThis, io_fault_of}
use Rattle.pipes_run.proofs.Nothing.{does_nothing}
use Rattle.pipes_run.proofs.Composing.{quiet_of, stops}

-- ---- the derivation of a whole file, and of what was read of it

file_whole : (q : Query) (d : Derivation) (whole bytes : List ℕ) → ReadsUpTo 1048576 whole bytes
    → IsFileOfDerivation q d bytes → IsFileOfDerivation q d whole
file_whole q d whole bytes (inl same) h =
    subst (λ (l : List ℕ). IsFileOfDerivation q d l) same h
file_whole q d whole bytes (inr longer) h =
    let short = h.short in absurd (omega (arith, longer.0, short))

whole_file : (q : Query) (d : Derivation) (whole bytes : List ℕ) → ReadsUpTo 1048576 whole bytes
    → IsFileOfDerivation q d whole → IsFileOfDerivation q d bytes
whole_file q d whole bytes (inl same) h =
    subst (λ (l : List ℕ). IsFileOfDerivation q d l) (sym same) h
whole_file q d whole bytes (inr longer) h =
    let short = h.short in absurd (omega (arith, longer.1, short))

refused_longer : (q : Query) (whole bytes : List ℕ) (r : TextRefusal) → 1048576 < length bytes
    → 1048576 < length whole → IsRefusedDerivation q bytes r → IsRefusedDerivation q whole r
refused_longer q whole bytes r more longer (too_long h) = too_long longer
refused_longer q whole bytes r more longer (tokens ts refusal short h k) =
    absurd (omega (arith, more, short))

refused_whole : (q : Query) (whole bytes : List ℕ) (r : TextRefusal)
    → ReadsUpTo 1048576 whole bytes → IsRefusedDerivation q bytes r → IsRefusedDerivation q whole r
refused_whole q whole bytes r (inl same) h =
    subst (λ (l : List ℕ). IsRefusedDerivation q l r) same h
refused_whole q whole bytes r (inr longer) h =
    refused_longer q whole bytes r longer.0 longer.1 h

pub gives_derivation : (q : Query) (name : List ℕ) (file : Option (List ℕ)) (bytes : List ℕ)
    (result : Result Derivation Kept) → ReadsFile 1048576 file bytes
    → GivesDerivation q name (Some bytes) result → GivesDerivation q name file result
gives_derivation q name file bytes result reads gives =
    subst (λ (f : Option (List ℕ)). GivesDerivation q name f result) (sym reads.1)
    (go result gives)
  where
    go : (r : Result Derivation Kept) → GivesDerivation q name (Some bytes) r
        → GivesDerivation q name (Some reads.0) r
    go (Ok d) h = file_whole q d reads.0 bytes reads.2 h
    go (Err fault) (inl (refusal, same, is)) =
        inl (refusal, same, refused_whole q reads.0 bytes refusal reads.2 is)
    go (Err fault) (inr free) = inr free

pub only_derivation : (q : Query) (name : List ℕ) (file : Option (List ℕ)) (bytes : List ℕ)
    (result : Result Derivation Kept) (d : Derivation) → ReadsFile 1048576 file bytes
    → ((x : Derivation) → IsFileOfDerivation q x bytes → GivesThis x result)
    → IsDerivationFile q name file (Ok d) → GivesThis d result
only_derivation q name file bytes result d reads only holds =
    only d (whole_file q d reads.0 bytes reads.2
    (subst (λ (f : Option (List ℕ)). IsDerivationFile q name f (Ok d)) reads.1 holds))

-- ---- what the command does

module _ (name file : List ℕ) (query : Query) (known : Option Names) (before now : FaultCounts)
  where
    -- with this derivation
    after_derived : (d : Derivation) (first last : Option (List ℕ)) (fault : Option Fault)
        (wrote : List ℕ)
        → ((files : Names) → known ≡ Some files → IsDerivationFile query file (files file) (Ok d))
        → ((files : Names) (other : Derivation) → known ≡ Some files
        → IsDerivationFile query file (files file) (Ok other) → d ≡ other)
        → Appends first last wrote → (fault ≡ Some Words → ⊥)
        → HasCallCause (Ok (Derive name file)) before now fault → WritesNothing fault wrote
        → Does (DeriveBy query d) fault wrote
        → RanAfter (Derive name file) query known before now first last fault
    after_derived d first last fault wrote holds only appended served cause quiet does = record {
      wrote = wrote;
      appended = appended;
      served = served;
      cause = cause;
      quiet = quiet;
      does = λ files tells. inr (Ok (DeriveBy query d), (Ok d, holds files tells, refl), does);
      only = only_job;
    }
      where
        only_job : (files : Names) (job : Job) → known ≡ Some files
            → IsJobOf (Derive name file) files query (Ok job) → Does job fault wrote
        only_job files job tells (Ok other, held, is) =
            let same : Ok (DeriveBy query d) ≡ Ok job =
            ap (λ (x : Derivation). Ok (DeriveBy query x)) (only files other tells held) ∙ sym is in
            subst (λ (j : Result Job Fault). DoesAsked j fault wrote) same does
        only_job files job tells (Err refused, held, is) = cc

    pub verdict_written : (d : Derivation) (first last : Option (List ℕ)) (text : List ℕ)
        (done : Result (Unit {0}) IoFault) → IsVerdict query d text
        → ((files : Names) → known ≡ Some files → IsDerivationFile query file (files file) (Ok d))
        → ((files : Names) (other : Derivation) → known ≡ Some files
        → IsDerivationFile query file (files file) (Ok other) → d ≡ other)
        → OnOk done (Appends first last text) → OnErr done (AppendsPrefix first last text)
        → (IsErrOf done io.Failed → Rose before.out now.out)
        → RanAfter (Derive name file) query known before now first last (io_fault_of done)
    verdict_written d first last text (Ok u) is holds only ok err cause =
        after_derived d first last None text holds only ok (λ e. cc) tt tt is
    verdict_written d first last text (Err io.Failed) is holds only ok err cause =
        after_derived d first last (Some Write) (take err.0 text) holds only err.1 (λ e. cc)
        (cause refl) tt (text, err.0, is, refl)
    verdict_written d first last text (Err io.Memory) is holds only ok err cause =
        after_derived d first last (Some Memory) (take err.0 text) holds only err.1 (λ e. cc) tt tt
        (inr (text, err.0, is, refl))

    -- no memory was left for the verdict
    pub verdict_unknown : (d : Derivation) (written : Option (List ℕ))
        → ((files : Names) → known ≡ Some files → IsDerivationFile query file (files file) (Ok d))
        → ((files : Names) (other : Derivation) → known ≡ Some files
        → IsDerivationFile query file (files file) (Ok other) → d ≡ other)
        → RanAfter (Derive name file) query known before now written written (Some Memory)
    verdict_unknown d written holds only =
        after_derived d written written (Some Memory) [] holds only (Appends-nil written) (λ e. cc)
        tt tt (inl refl)

    -- ---- the derivation was not read

    not_words : (fault : Fault) → IsOfDerivation fault → Some fault ≡ Some Words → ⊥
    not_words Words h e = absurd h
    not_words (QueryText r) h e = cc
    not_words (QueryType r) h e = cc
    not_words (DerivationText file r) h e = cc
    not_words Unbuilt h e = cc
    not_words (Missing name) h e = cc
    not_words (ReadFile name) h e = cc
    not_words (ReadSource name) h e = cc
    not_words (Row source line why) h e = cc
    not_words (Limit source line) h e = cc
    not_words Write h e = cc
    not_words Memory h e = cc

    cause_of : (fault : Fault) → IsOfDerivation fault
        → IsReadOf file before.files now.files fault
        → HasCallCause (Ok (Derive name file)) before now (Some fault)
    cause_of (ReadFile other) of cause =
        (subst (λ (f : List ℕ). Rose (before.files f) (now.files f)) (sym cause.0) cause.1, tt)
    cause_of Words of cause = tt
    cause_of (QueryText r) of cause = tt
    cause_of (QueryType r) of cause = tt
    cause_of (DerivationText file r) of cause = tt
    cause_of Unbuilt of cause = tt
    cause_of (Missing name) of cause = tt
    cause_of (ReadSource name) of cause = absurd of
    cause_of (Row source line why) of cause = tt
    cause_of (Limit source line) of cause = tt
    cause_of Write of cause = absurd of
    cause_of Memory of cause = tt

    asked_fault : (fault : Fault) → IsOfDerivation fault → DoesAsked (Err fault) (Some fault) []
    asked_fault Words h = absurd h
    asked_fault (QueryText r) h = absurd h
    asked_fault (QueryType r) h = absurd h
    asked_fault (DerivationText file r) h = (refl, refl)
    asked_fault Unbuilt h = absurd h
    asked_fault (Missing name) h = (refl, refl)
    asked_fault (ReadFile name) h = refl
    asked_fault (ReadSource name) h = absurd h
    asked_fault (Row source line why) h = absurd h
    asked_fault (Limit source line) h = absurd h
    asked_fault Write h = absurd h
    asked_fault Memory h = refl

    pub derivation_unread : (written : Option (List ℕ)) (fault : Fault) → IsOfDerivation fault
        → IsReadOf file before.files now.files fault
        → ((files : Names) → known ≡ Some files
        → IsDerivationFile query file (files file) (Err fault) ⊎ IsFree fault)
        → ((files : Names) (d : Derivation) → known ≡ Some files
        → IsDerivationFile query file (files file) (Ok d) → IsFree fault)
        → RanAfter (Derive name file) query known before now written written (Some fault)
    derivation_unread written fault of cause gives only = record {
      wrote = [];
      appended = Appends-nil written;
      served = not_words fault of;
      cause = cause_of fault of cause;
      quiet = quiet_of fault;
      does = λ files tells. does files (gives files tells);
      only = only_job;
    }
      where
        does : (files : Names) → IsDerivationFile query file (files file) (Err fault) ⊎ IsFree fault
            → StopsFirst (Some fault) []
            ⊎ ((job : Result Job Fault) × IsJobOf (Derive name file) files query job
            × DoesAsked job (Some fault) [])
        does files (inl holds) = inr (Err fault, (Err fault, holds, refl), asked_fault fault of)
        does files (inr free) = inl (stops fault free)

        only_job : (files : Names) (job : Job) → known ≡ Some files
            → IsJobOf (Derive name file) files query (Ok job) → Does job (Some fault) []
        only_job files job tells (Ok d, held, is) =
            subst (λ (j : Result Job Fault). DoesAsked j (Some fault) []) (sym is)
            (does_nothing (DeriveBy query d) fault (only files d tells held))
        only_job files job tells (Err refused, held, is) = cc
