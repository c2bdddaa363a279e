-- A call, from what its command did.
use Rattle.std.proofs.Common.{◌≡◌, ◌⊎◌, ◌↔◌, ℕ, List, [], ◌∷◌, Option, Some, None, Result, Ok, Err}
use Rattle.std.proofs.Common.{refl, sym, subst, ◌∙◌, inl, inr, arith}
use Rattle.std.proofs.lemmas.List.Elements.{All-head, All-tail}
use Rattle.std.proofs.KnownBytes.{Appends-nil}
use Rattle.pipes_edge.specs.Outside.{Names}
use Rattle.pipes_edge.specs.Causes.{Rose}
use Rattle.pipes_window.specs.declared.item.Item.{Item}
use Rattle.pipes_args.specs.Command.{Command, command_of}
use Rattle.pipes_run.specs.Errand.{Errand, errand_for, errand_in}
use Rattle.pipes_feed.specs.declared.reason.Reason.{Reason}
use Rattle.pipes_feed.specs.declared.reason.Reason.TheVariants as reason
use Rattle.pipes_feed.specs.Items.{Items}
use Rattle.pipes_query.specs.declared.query.SourceDecl.{SourceDecl}
use Rattle.pipes_error.specs.Fault.{Fault, Words, QueryText, QueryType, DerivationText, Unbuilt}
use Rattle.pipes_error.specs.Fault.{Missing, ReadFile, ReadSource, Row, Limit, Write, Memory}
use Rattle.pipes_error.specs.Fault.{status_of, WritesLine}
use Rattle.pipes_run.specs.Asked.{Job, RunOver, AnswerAt, PrintOf, DeriveBy, AsksWords}
use Rattle.pipes_run.specs.Outcome.{FaultCounts, Does, DoesAsked, HasCallCause, StopsFirst}
use Rattle.pipes_run.specs.Outcome.{StoppedAt, WritesNothing}
use Rattle.pipes_inline.specs.Ran.{AllEnd}
use Rattle.pipes_run.specs.Outcome.{IsWhole, IsComplete, RanErrand, DidCommand}

-- the words are for nothing, for this reason
ran_nothing : (words : List (List ℕ)) (known : Option Names) (before now : FaultCounts)
    (written : Option (List ℕ)) (fault : Fault) → errand_in words ≡ Err fault
    → ((fault ≡ Words) ⊎ (fault ≡ Unbuilt))
    → ((Some fault ≡ Some Words) ↔ (command_of words ≡ None))
    → DidCommand words known before now written written (Some fault)
ran_nothing words known before now written fault none known_fault refused = record {
  wrote = [];
  appended = Appends-nil written;
  refused = refused;
  unserved = λ same. unserved same;
  cause = cause fault known_fault;
  quiet = quiet fault known_fault;
  does = λ files tells. inr (
    Err fault,
    subst (λ (c : Result Errand Fault). AsksWords c files (Err fault)) (sym none) refl,
    asked fault known_fault,
  );
  only = λ files job tells asks. no_job job
      (subst (λ (c : Result Errand Fault). AsksWords c files (Ok job)) none asks);
}
  where
    unserved : errand_in words ≡ Err Unbuilt → Some fault ≡ Some Unbuilt
    unserved same = cc

    cause : (f : Fault) → ((f ≡ Words) ⊎ (f ≡ Unbuilt))
        → HasCallCause (errand_in words) before now (Some f)
    cause f (inl is) = subst (λ (x : Fault). HasCallCause (errand_in words) before now (Some x))
        (sym is) tt
    cause f (inr is) = subst (λ (x : Fault). HasCallCause (errand_in words) before now (Some x))
        (sym is) tt

    quiet : (f : Fault) → ((f ≡ Words) ⊎ (f ≡ Unbuilt)) → WritesNothing (Some f) []
    quiet f (inl is) = subst (λ (x : Fault). WritesNothing (Some x) []) (sym is) refl
    quiet f (inr is) = subst (λ (x : Fault). WritesNothing (Some x) []) (sym is) refl

    asked : (f : Fault) → ((f ≡ Words) ⊎ (f ≡ Unbuilt)) → DoesAsked (Err f) (Some f) []
    asked f (inl is) = subst (λ (x : Fault). DoesAsked (Err x) (Some x) []) (sym is) (refl, refl)
    asked f (inr is) = subst (λ (x : Fault). DoesAsked (Err x) (Some x) []) (sym is) (refl, refl)

    no_job : (job : Job) → Ok job ≡ Err fault → Does job (Some fault) []
    no_job job is = cc

-- the words are no command
pub ran_words : (words : List (List ℕ)) (known : Option Names) (before now : FaultCounts)
    (written : Option (List ℕ)) → command_of words ≡ None
    → DidCommand words known before now written written (Some Words)
ran_words words known before now written none =
    ran_nothing words known before now written Words (rw none refl) (inl refl)
    (λ same. none, λ same. refl)

-- the words are this command, which is not served
pub ran_unserved : (words : List (List ℕ)) (command : Command) (known : Option Names)
    (before now : FaultCounts) (written : Option (List ℕ)) → command_of words ≡ Some command
    → errand_for command ≡ Err Unbuilt
    → DidCommand words known before now written written (Some Unbuilt)
ran_unserved words command known before now written is unserved =
    ran_nothing words known before now written Unbuilt (rw is unserved) (inr refl)
    (λ same. cc, λ none. no none)
  where
    no : command_of words ≡ None → Some Unbuilt ≡ Some Words
    no none = let both : Some command ≡ None = sym is ∙ none in cc

-- the words are this command, for this errand, which was done
pub ran_command : (words : List (List ℕ)) (command : Command) (errand : Errand)
    (known : Option Names)
    (before now : FaultCounts) (first last : Option (List ℕ)) (fault : Option Fault)
    → command_of words ≡ Some command → errand_for command ≡ Ok errand
    → RanErrand errand known before now first last fault
    → DidCommand words known before now first last fault
ran_command words command errand known before now first last fault is for ran = record {
  wrote = ran.wrote;
  appended = ran.appended;
  refused = (λ same. absurd (ran.served same), λ none. some none);
  unserved = λ unserved. served (sym for_words ∙ unserved);
  cause =
      subst (λ (c : Result Errand Fault). HasCallCause c before now fault) (sym for_words)
      ran.cause;
  quiet = ran.quiet;
  does = λ files tells. subst (λ (c : Result Errand Fault). StopsFirst fault ran.wrote
      ⊎ ((job : Result Job Fault) × AsksWords c files job × DoesAsked job fault ran.wrote))
      (sym for_words)
      (ran.does files tells);
  only = λ files job tells asks. ran.only files job tells
      (subst (λ (c : Result Errand Fault). AsksWords c files (Ok job)) for_words asks);
}
  where
    for_words : errand_in words ≡ Ok errand
    for_words = rw is for

    some : command_of words ≡ None → fault ≡ Some Words
    some none = let no : Some command ≡ None = sym is ∙ none in cc

    served : Ok errand ≡ Err Unbuilt → fault ≡ Some Unbuilt
    served same = cc

-- nothing was said
pub says_nothing : (written : Option (List ℕ)) (faults : ℕ) → WritesLine []
    (record {
      written_before = written;
      written_now = written;
      faults_before = faults;
      faults_now =
          faults;
    })
says_nothing written faults = record {
  said = [];
  appended = Appends-nil written;
  kept = 0;
  prefix = refl;
  cut = λ less. absurd (omega (arith, less));
}

-- ---- nothing but out of memory stops what nothing refuses

not_stopped : (sources : List SourceDecl) (items : List Items) (taken : List (List Item))
    (name : List ℕ) (why : Reason) → AllEnd items → (reason.AtEnd ≡ why → ⊥)
    → StoppedAt sources items taken name why → ⊥
not_stopped [] items taken name why ends other stopped = absurd stopped
not_stopped (s ∷ ss) [] taken name why ends other stopped = absurd stopped
not_stopped (s ∷ ss) (i ∷ is) [] name why ends other stopped = absurd stopped
not_stopped (s ∷ ss) (i ∷ is) (t ∷ ts) name why ends other (inl here) =
    other (sym (All-head (λ (x : Items). x.end ≡ reason.AtEnd) i is ends) ∙ here.1)
not_stopped (s ∷ ss) (i ∷ is) (t ∷ ts) name why ends other (inr later) =
    not_stopped ss is ts name why (All-tail (λ (x : Items). x.end ≡ reason.AtEnd) i is ends) other
    later

finishes : (errand : Result Errand Fault) (before now : FaultCounts) (job : Job) (fault : Fault)
    (wrote : List ℕ) → IsWhole job → HasCallCause errand before now (Some fault)
    → Does job (Some fault) wrote
    → ((name : List ℕ) → Rose (before.files name) (now.files name) → ⊥)
    → (Rose before.out now.out → ⊥) → status_of (Some fault) ≡ 6
finishes errand before now job Memory wrote whole cause does files out = refl
finishes errand before now job Write wrote whole cause does files out = absurd (out cause)
finishes errand before now job (ReadFile name) wrote whole cause does files out =
    absurd (files name cause.0)
finishes errand before now job (ReadSource name) wrote whole cause does files out =
    absurd (files name cause)
finishes errand before now (RunOver form query items) (Row source line why) wrote whole cause does
    files out = absurd (not_stopped query.sources items does.0 source (reason.Row line why) whole
    (λ e. cc) does.2)
finishes errand before now (RunOver form query items) (Limit source line) wrote whole cause does
    files out = absurd (not_stopped query.sources items does.0 source (reason.Limit line) whole
    (λ e. cc) does.2)
finishes errand before now (AnswerAt query items t) (Row source line why) wrote whole cause does
    files out = absurd does
finishes errand before now (AnswerAt query items t) (Limit source line) wrote whole cause does
    files out = absurd does
finishes errand before now (RunOver form query items) Words wrote whole cause does files
    out = absurd does
finishes errand before now (RunOver form query items) (QueryText r) wrote whole cause does files
    out = absurd does
finishes errand before now (RunOver form query items) (QueryType r) wrote whole cause does files
    out = absurd does
finishes errand before now (RunOver form query items) (DerivationText file r) wrote whole cause
    does files
    out = absurd does
finishes errand before now (RunOver form query items) Unbuilt wrote whole cause does files
    out = absurd does
finishes errand before now (RunOver form query items) (Missing name) wrote whole cause does files
    out = absurd does
finishes errand before now (AnswerAt query items t) Words wrote whole cause does files
    out = absurd does
finishes errand before now (AnswerAt query items t) (QueryText r) wrote whole cause does files
    out = absurd does
finishes errand before now (AnswerAt query items t) (QueryType r) wrote whole cause does files
    out = absurd does
finishes errand before now (AnswerAt query items t) (DerivationText file r) wrote whole cause does
    files
    out = absurd does
finishes errand before now (AnswerAt query items t) Unbuilt wrote whole cause does files
    out = absurd does
finishes errand before now (AnswerAt query items t) (Missing name) wrote whole cause does files
    out = absurd does
finishes errand before now (PrintOf query) (Row source line why) wrote whole cause does files
    out = absurd does
finishes errand before now (PrintOf query) (Limit source line) wrote whole cause does files
    out = absurd does
finishes errand before now (PrintOf query) Words wrote whole cause does files
    out = absurd does
finishes errand before now (PrintOf query) (QueryText r) wrote whole cause does files
    out = absurd does
finishes errand before now (PrintOf query) (QueryType r) wrote whole cause does files
    out = absurd does
finishes errand before now (PrintOf query) (DerivationText file r) wrote whole cause does files
    out = absurd does
finishes errand before now (PrintOf query) Unbuilt wrote whole cause does files
    out = absurd does
finishes errand before now (PrintOf query) (Missing name) wrote whole cause does files
    out = absurd does
finishes errand before now (DeriveBy query d) (Row source line why) wrote whole cause does files
    out = absurd does
finishes errand before now (DeriveBy query d) (Limit source line) wrote whole cause does files
    out = absurd does
finishes errand before now (DeriveBy query d) Words wrote whole cause does files
    out = absurd does
finishes errand before now (DeriveBy query d) (QueryText r) wrote whole cause does files
    out = absurd does
finishes errand before now (DeriveBy query d) (QueryType r) wrote whole cause does files
    out = absurd does
finishes errand before now (DeriveBy query d) (DerivationText file r) wrote whole cause does files
    out = absurd does
finishes errand before now (DeriveBy query d) Unbuilt wrote whole cause does files
    out = absurd does
finishes errand before now (DeriveBy query d) (Missing name) wrote whole cause does files
    out = absurd does

pub complete : (words : List (List ℕ)) (known : Option Names) (before now : FaultCounts)
    (first last : Option (List ℕ)) (fault : Fault) (status : ℕ) → status ≡ status_of (Some fault)
    → DidCommand words known before now first last (Some fault)
    → IsComplete words known before now status
complete words known before now first last fault status is ran =
    λ files job tells asks whole read written. inr (is ∙ finishes (errand_in words) before now job
    fault ran.wrote whole ran.cause (ran.only files job tells asks) read written)
