-- An answer that was found and written, as what the command does.
use Rattle.std.proofs.Common.{◌≡◌, ℕ, List, [], take, Option, Some, None, Result, Ok, Err, OnOk}
use Rattle.std.proofs.Common.{OnErr, IsErrOf, refl, sym, subst, inl, inr}
use Rattle.std.specs.List.Sorted.{IsSorted}
use Rattle.std.specs.Io.KnownBytes.{Appends}
use Rattle.std.proofs.KnownBytes.{Appends-nil}
use Rattle.pipes_edge.specs.Outside.{Names}
use Rattle.pipes_edge.specs.Causes.{Rose}
use Rattle.pipes_buffer.specs.Pieces.{AppendsPrefix}
use Rattle.pipes_buffer.specs.declared.IoFault.{IoFault}
use Rattle.pipes_buffer.specs.declared.IoFault.TheVariants as io
use Rattle.pipes_tuple.specs.declared.value.Value.{Value}
use Rattle.pipes_tuple.specs.Bag.{SameBag}
use Rattle.pipes_tuple.specs.Order.{tuple_cmp}
use Rattle.pipes_window.specs.declared.item.Item.{Item}
use Rattle.pipes_run.specs.Errand.{At}
use Rattle.pipes_query.specs.declared.query.Query.{Query}
use Rattle.pipes_error.specs.Fault.{Fault, Words, QueryText, QueryType, DerivationText, Unbuilt}
use Rattle.pipes_error.specs.Fault.{Missing, ReadFile, ReadSource, Row, Limit, Write, Memory}
use Rattle.pipes_semantics.specs.Answer.{answer}
use Rattle.pipes_time.specs.Results.{◌>>=◌}
use Rattle.pipes_answer.specs.Whole.{whole_items}
use Rattle.pipes_answer.specs.Lines.{tuple_lines}
use Rattle.pipes_answer.specs.Gives.{HasAnswerCause, IsOfReading, Refuses}
use Rattle.pipes_run.specs.Asked.{AnswerAt, answer_job}
use Rattle.pipes_run.specs.Outcome.{FaultCounts, DoesAsked, Does, HasCallCause, RanAfter}
use Rattle.pipes_run.specs.Seen.{io_fault_of}
use Rattle.pipes_run.proofs.Composing.{quiet_of, after_by}

-- the rows are the query's answer over the items of all sources
abbrev pub AreAnswer : Query → List (List Value) → ℕ → Names → Type 0
AreAnswer query rows t files = (items : List (List Item))
    × (whole_items files query.sources ≡ Ok items) × SameBag rows (answer query items t)

asked_of : (query : Query) (rows : List (List Value)) (t : ℕ) (name : List ℕ) (files : Names)
    (fault : Option Fault) (wrote : List ℕ) (is : AreAnswer query rows t files)
    → Does (AnswerAt query is.0 t) fault wrote → DoesAsked (answer_job t files query) fault wrote
asked_of query rows t name files fault wrote is does =
    subst (λ (asked : Result (List (List Item)) Fault). DoesAsked
    (asked >>= λ items. Ok (AnswerAt query items t)) fault wrote) (sym is.1) does

pub answered : (name : List ℕ) (query : Query) (known : Option Names) (before now : FaultCounts)
    (first last : Option (List ℕ)) (rows : List (List Value)) (t : ℕ)
    (done : Result (Unit {0}) IoFault)
    → IsSorted tuple_cmp rows → ((files : Names) → known ≡ Some files
    → AreAnswer query rows t files)
    → OnOk done (Appends first last (tuple_lines rows)) → OnErr done
    (AppendsPrefix first last (tuple_lines rows)) → (IsErrOf done io.Failed
    → Rose before.out now.out)
    → RanAfter (At name t) query known before now first last (io_fault_of done)
answered name query known before now first last rows t (Ok u) order are ok err cause =
    after_by (At name t) query known before now first last None (tuple_lines rows)
    (λ files. answer_job t files query) (λ files. refl) (λ files job e. e) ok (λ e. cc) tt tt
    (λ files tells. let is = are files tells in
    asked_of query rows t name files None (tuple_lines rows) is (rows, refl, order, is.2))
answered name query known before now first last rows t (Err io.Failed) order are ok err cause =
    after_by (At name t) query known before now first last (Some Write)
    (take err.0 (tuple_lines rows)) (λ files. answer_job t files query) (λ files. refl)
    (λ files job e. e) err.1 (λ e. cc) (cause refl) tt
    (λ files tells. let is = are files tells in
    asked_of query rows t name files (Some Write) (take err.0 (tuple_lines rows)) is
    (tuple_lines rows, err.0, (rows, refl, order, is.2), refl))
answered name query known before now first last rows t (Err io.Memory) order are ok err cause =
    after_by (At name t) query known before now first last (Some Memory)
    (take err.0 (tuple_lines rows)) (λ files. answer_job t files query) (λ files. refl)
    (λ files job e. e) err.1 (λ e. cc) tt tt
    (λ files tells. let is = are files tells in
    asked_of query rows t name files (Some Memory) (take err.0 (tuple_lines rows)) is
    (inr (tuple_lines rows, err.0, (rows, refl, order, is.2), refl)))

not_words : (fault : Fault) → IsOfReading fault → Some fault ≡ Some Words → ⊥
not_words Words h e = absurd h
not_words (QueryText r) h e = cc
not_words (QueryType r) h e = cc
not_words (DerivationText file r) h e = cc
not_words Unbuilt h e = cc
not_words (Missing name) h e = cc
not_words (ReadFile name) h e = cc
not_words (ReadSource name) h e = cc
not_words (Row source line why) h e = cc
not_words (Limit source line) h e = cc
not_words Write h e = cc
not_words Memory h e = cc

cause_of : (name : List ℕ) (t : ℕ) (before now : FaultCounts) (fault : Fault) → IsOfReading fault
    → HasAnswerCause before.files now.files fault → HasCallCause (Ok (At name t)) before now
    (Some fault)
cause_of name t before now (ReadFile file) of cause = (cause, tt)
cause_of name t before now Words of cause = tt
cause_of name t before now (QueryText r) of cause = tt
cause_of name t before now (QueryType r) of cause = tt
cause_of name t before now (DerivationText file r) of cause = tt
cause_of name t before now Unbuilt of cause = tt
cause_of name t before now (Missing file) of cause = tt
cause_of name t before now (ReadSource file) of cause = absurd of
cause_of name t before now (Row source line why) of cause = tt
cause_of name t before now (Limit source line) of cause = tt
cause_of name t before now Write of cause = absurd of
cause_of name t before now Memory of cause = tt

-- a fault that the files decide, or a free one
refused_asked : (query : Query) (t : ℕ) (asked : Result (List (List Item)) Fault) (fault : Fault)
    → IsOfReading fault → Refuses asked fault → DoesAsked (asked
    >>= λ items. Ok (AnswerAt query items t)) (Some fault) []
refused_asked query t (Ok items) (ReadFile name) of h = refl
refused_asked query t (Err e) (ReadFile name) of h = refl
refused_asked query t (Ok items) Memory of h = inl refl
refused_asked query t (Err e) Memory of h = refl
refused_asked query t asked Words of h = absurd of
refused_asked query t asked (QueryText r) of h = absurd of
refused_asked query t asked (QueryType r) of h = absurd of
refused_asked query t asked (DerivationText file r) of h = absurd of
refused_asked query t asked Unbuilt of h = absurd of
refused_asked query t asked (ReadSource file) of h = absurd of
refused_asked query t asked Write of h = absurd of
refused_asked query t asked (Missing file) of h =
    subst (λ (a : Result (List (List Item)) Fault). DoesAsked
    (a >>= λ items. Ok (AnswerAt query items t)) (Some (Missing file)) []) (sym h) (refl, refl)
refused_asked query t asked (Row source line why) of h = subst
    (λ (a : Result (List (List Item)) Fault). DoesAsked (a >>= λ items. Ok (AnswerAt query items t))
    (Some (Row source line why)) []) (sym h) (refl, refl)
refused_asked query t asked (Limit source line) of h = subst
    (λ (a : Result (List (List Item)) Fault). DoesAsked (a >>= λ items. Ok (AnswerAt query items t))
    (Some (Limit source line)) []) (sym h) (refl, refl)

pub unanswered : (name : List ℕ) (query : Query) (known : Option Names) (before now : FaultCounts)
    (written : Option (List ℕ)) (t : ℕ) (fault : Fault)
    → IsOfReading fault → HasAnswerCause before.files now.files fault
    → ((files : Names) → known ≡ Some files → Refuses (whole_items files query.sources) fault)
    → RanAfter (At name t) query known before now written written (Some fault)
unanswered name query known before now written t fault of cause refuses =
    after_by (At name t) query known before now written written (Some fault) []
    (λ files. answer_job t files query) (λ files. refl) (λ files job e. e) (Appends-nil written)
    (not_words fault of) (cause_of name t before now fault of cause) (quiet_of fault)
    (λ files tells. refused_asked query t (whole_items files query.sources) fault of
    (refuses files tells))
