-- What a call does: the fault that it ends with, what it writes, and what it says of the fault.
use Rattle.std.specs.Prelude.{◌≡◌, ◌⊎◌, ◌↔◌, ℕ, List, [], ◌∷◌, ◌++◌, take, map, flat_map, Option}
use Rattle.std.specs.Prelude.{Some, None, Result, Ok, Err, ⊤, codes}
use Rattle.std.specs.Fmt.{decimal}
use Rattle.std.specs.List.{All}
use Rattle.std.specs.List.Sorted.{IsSorted}
use Rattle.std.specs.Io.KnownBytes.{Appends}
use Rattle.pipes_edge.specs.Causes.{Rose}
use Rattle.pipes_edge.specs.Outside.{Names}
use Rattle.pipes_tuple.specs.declared.value.Kind.{Kind}
use Rattle.pipes_tuple.specs.declared.value.Value.{Value}
use Rattle.pipes_tuple.specs.Bag.{SameBag}
use Rattle.pipes_tuple.specs.Order.{tuple_cmp}
use Rattle.pipes_tuple.specs.Kinds.{kind_word}
use Rattle.pipes_window.specs.declared.item.Item.{Item}
use Rattle.pipes_output.specs.declared.entry.Entry.TheVariants.{Ended, Stopped}
use Rattle.pipes_args.specs.Command.{command_of}
use Rattle.pipes_run.specs.Errand.{Errand, Run, errand_in}
use Rattle.pipes_feed.specs.declared.reason.Reason.{Reason}
use Rattle.pipes_feed.specs.declared.reason.Reason.TheVariants as reason
use Rattle.pipes_feed.specs.Items.{Items, in_order}
use Rattle.pipes_query.specs.declared.query.Query.{Query}
use Rattle.pipes_query.specs.declared.query.SourceDecl.{SourceDecl}
use Rattle.pipes_text.specs.Printing.{query_text}
use Rattle.pipes_rules.specs.Stepping.{Derives, FailsAt}
use Rattle.pipes_derivation.specs.declared.derivation.Derivation.{Derivation}
use Rattle.pipes_semantics.specs.Answer.{answer, schema_of, schemas_of}
use Rattle.pipes_semantics.specs.Run.{WritesRun, WritesRunPrefix}
use Rattle.pipes_answer.specs.Lines.{tuple_lines}
use Rattle.pipes_inline.specs.Ran.{lists_of, AllEnd, ArePrefixes}
use Rattle.pipes_error.specs.Fault.{Fault, Words, QueryText, QueryType, DerivationText, Unbuilt}
use Rattle.pipes_error.specs.Fault.{Missing, ReadFile, ReadSource, Row, Limit, Write, Memory}
use Rattle.pipes_error.specs.Fault.{status_of, fault_line, Given, WritesLine}
use Rattle.pipes_run.specs.Asked.{Job, RunOver, AnswerAt, PrintOf, DeriveBy, IsJobOf, AsksWords}
use Rattle.pipes_run.specs.Asked.{Asks}

abbrev pub kind_part : Kind → List ℕ
kind_part kind = codes " " ++ kind_word kind

-- the kinds of a query's result, each after one space
abbrev pub kinds_line : List Kind → List ℕ
kinds_line kinds = codes "kinds" ++ flat_map kind_part kinds ++ codes "\n"

-- what `check` writes
abbrev pub checked_text : Query → List ℕ
checked_text query = query_text query ++ kinds_line (schema_of query)

-- the arrivals of the source with this name end so, and all of them were taken
abbrev pub StoppedAt : List SourceDecl → List Items → List (List Item) → List ℕ → Reason → Type 0
StoppedAt (s ∷ ss) (a ∷ others) (t ∷ ts) name why =
    ((s.name ≡ name) × (a.end ≡ why) × (t ≡ in_order a.list)) ⊎ StoppedAt ss others ts name why
StoppedAt _ _ _ name why = ⊥

-- one of the sources has its rows in this file
abbrev pub IsFileOf : List SourceDecl → List ℕ → Type 0
IsFileOf [] file = ⊥
IsFileOf (s ∷ ss) file = (s.file ≡ file) ⊎ IsFileOf ss file

-- what an answer at an instant writes
abbrev pub WritesAnswer : Query → List (List Item) → ℕ → List ℕ → Type 0
WritesAnswer query items t bytes = (rows : List (List Value)) × (bytes ≡ tuple_lines rows)
    × IsSorted tuple_cmp rows × SameBag rows (answer query items t)

-- what a derivation writes: that it leads to its plan from the query's, or the number of the first
-- step that is refused, which is one more than the last one's where the steps make another plan
abbrev pub IsVerdict : Query → Derivation → List ℕ → Type 0
IsVerdict query d bytes =
    ((bytes ≡ codes "derived\n") × Derives (schemas_of query) query.plan d.steps d.plan)
    ⊎ ((n : ℕ) × (bytes ≡ codes "steps " ++ decimal n ++ codes "\n")
    × FailsAt (schemas_of query) query.plan d.steps d.plan 1 n)

-- a job that was done, or stopped by a fault, and what it has written then
abbrev pub Does : Job → Option Fault → List ℕ → Type 0
Does (RunOver form query arrivals) None bytes = AllEnd arrivals
    × WritesRun form query (lists_of arrivals) Ended bytes
Does (RunOver form query arrivals) (Some (Row source line why)) bytes =
    (taken : List (List Item)) × ArePrefixes arrivals taken
    × StoppedAt query.sources arrivals taken source (reason.Row line why)
    × WritesRun form query taken Stopped bytes
Does (RunOver form query arrivals) (Some (Limit source line)) bytes =
    (taken : List (List Item)) × ArePrefixes arrivals taken
    × StoppedAt query.sources arrivals taken source (reason.Limit line)
    × WritesRun form query taken Stopped bytes
Does (RunOver form query arrivals) (Some (ReadSource file)) bytes = (taken : List (List Item))
    × ArePrefixes arrivals taken × IsFileOf query.sources file × WritesRun form query taken Stopped
    bytes
Does (RunOver form query arrivals) (Some Write) bytes = (taken : List (List Item))
    × ArePrefixes arrivals taken × WritesRunPrefix form query taken bytes
Does (RunOver form query arrivals) (Some Memory) bytes = (taken : List (List Item))
    × ArePrefixes arrivals taken × WritesRunPrefix form query taken bytes
Does (AnswerAt query items t) None bytes = WritesAnswer query items t bytes
Does (AnswerAt query items t) (Some Write) bytes = (whole : List ℕ) × (n : ℕ)
    × WritesAnswer query items t whole × (bytes ≡ take n whole)
Does (AnswerAt query items t) (Some Memory) bytes = (bytes ≡ [])
    ⊎ ((whole : List ℕ) × (n : ℕ) × WritesAnswer query items t whole × (bytes ≡ take n whole))
Does (PrintOf query) None bytes = bytes ≡ checked_text query
Does (PrintOf query) (Some Write) bytes = (n : ℕ) × (bytes ≡ take n (checked_text query))
Does (PrintOf query) (Some Memory) bytes = (n : ℕ) × (bytes ≡ take n (checked_text query))
Does (DeriveBy query d) None bytes = IsVerdict query d bytes
Does (DeriveBy query d) (Some Write) bytes = (whole : List ℕ) × (n : ℕ) × IsVerdict query d whole
    × (bytes ≡ take n whole)
Does (DeriveBy query d) (Some Memory) bytes = (bytes ≡ [])
    ⊎ ((whole : List ℕ) × (n : ℕ) × IsVerdict query d whole × (bytes ≡ take n whole))
Does job (Some (ReadFile name)) bytes = bytes ≡ []
Does job fault bytes = ⊥

-- What was asked for was done; or what the words and the files refuse was refused, but for a failed
-- read and out of memory on the way there.
abbrev pub DoesAsked : Result Job Fault → Option Fault → List ℕ → Type 0
DoesAsked (Ok job) fault bytes = Does job fault bytes
DoesAsked (Err refused) None bytes = ⊥
DoesAsked (Err refused) (Some Write) bytes = ⊥
DoesAsked (Err refused) (Some (ReadSource file)) bytes = ⊥
DoesAsked (Err refused) (Some (ReadFile name)) bytes = bytes ≡ []
DoesAsked (Err refused) (Some Memory) bytes = bytes ≡ []
DoesAsked (Err refused) (Some fault) bytes = (refused ≡ fault) × (bytes ≡ [])

-- a failed read, or out of memory, before anything was written
abbrev pub StopsFirst : Option Fault → List ℕ → Type 0
StopsFirst (Some (ReadFile name)) bytes = bytes ≡ []
StopsFirst (Some Memory) bytes = bytes ≡ []
StopsFirst fault bytes = ⊥

-- what fails before a run: the query's file, the script's, or the search for a source's
abbrev pub IsEarly : Result Errand Fault → List ℕ → ℕ → ℕ → Type 0
IsEarly (Ok (Run query script form)) name before now = (name ≡ query) ⊎ (name ≡ script)
    ⊎ Rose before now
IsEarly _ name before now = ⊤

-- the counts of faults of files by their names, of failed searches, and of the output
pub record FaultCounts : Type 0 where
  pub files : List ℕ → ℕ
  pub searches : ℕ
  pub out : ℕ

-- a read fails only where the count of its file's name rose, and a write where that of the output
-- did
abbrev pub HasCallCause : Result Errand Fault → FaultCounts → FaultCounts → Option Fault → Type 0
HasCallCause errand before now (Some (ReadFile name)) = Rose (before.files name) (now.files name)
    × IsEarly errand name before.searches now.searches
HasCallCause errand before now (Some (ReadSource file)) = Rose (before.files file) (now.files file)
HasCallCause errand before now (Some Write) = Rose before.out now.out
HasCallCause errand before now fault = ⊤

-- nothing is written with a fault from before the run, whatever the files tell
abbrev pub WritesNothing : Option Fault → List ℕ → Type 0
WritesNothing (Some Words) bytes = bytes ≡ []
WritesNothing (Some (QueryText refusal)) bytes = bytes ≡ []
WritesNothing (Some (QueryType refusal)) bytes = bytes ≡ []
WritesNothing (Some (DerivationText name refusal)) bytes = bytes ≡ []
WritesNothing (Some Unbuilt) bytes = bytes ≡ []
WritesNothing (Some (Missing name)) bytes = bytes ≡ []
WritesNothing (Some (ReadFile name)) bytes = bytes ≡ []
WritesNothing fault bytes = ⊤

-- what an errand does
pub record RanErrand (errand : Errand) (known : Option Names) (before now : FaultCounts)
    (written_before written_now : Option (List ℕ)) (fault : Option Fault) : Type 0 where
  pub wrote : List ℕ
  pub appended : Appends written_before written_now wrote
  pub served : fault ≡ Some Words → ⊥
  pub cause : HasCallCause (Ok errand) before now fault
  pub quiet : WritesNothing fault wrote
  -- it was stopped before anything was done, or did what the errand and the known files ask for
  pub does : (files : Names) → known ≡ Some files → StopsFirst fault wrote
      ⊎ ((job : Result Job Fault) × Asks errand files job × DoesAsked job fault wrote)
  -- and where they ask for a job, it is that job and no other
  pub only : (files : Names) (job : Job) → known ≡ Some files → Asks errand files (Ok job)
      → Does job fault wrote

-- what an errand does once its query is read
pub record RanAfter (errand : Errand) (query : Query) (known : Option Names)
    (before now : FaultCounts)
    (written_before written_now : Option (List ℕ)) (fault : Option Fault) : Type 0 where
  pub wrote : List ℕ
  pub appended : Appends written_before written_now wrote
  pub served : fault ≡ Some Words → ⊥
  pub cause : HasCallCause (Ok errand) before now fault
  pub quiet : WritesNothing fault wrote
  pub does : (files : Names) → known ≡ Some files → StopsFirst fault wrote
      ⊎ ((job : Result Job Fault) × IsJobOf errand files query job × DoesAsked job fault wrote)
  pub only : (files : Names) (job : Job) → known ≡ Some files
      → IsJobOf errand files query (Ok job) → Does job fault wrote

-- what a call does before it tells of its fault
pub record DidCommand (words : List (List ℕ)) (known : Option Names) (before now : FaultCounts)
    (written_before written_now : Option (List ℕ)) (fault : Option Fault) : Type 0 where
  pub wrote : List ℕ
  pub appended : Appends written_before written_now wrote
  -- the words are refused exactly where they are no command
  pub refused : (fault ≡ Some Words) ↔ (command_of words ≡ None)
  -- and before any file, where they are for nothing that is served
  pub unserved : errand_in words ≡ Err Unbuilt → fault ≡ Some Unbuilt
  pub cause : HasCallCause (errand_in words) before now fault
  pub quiet : WritesNothing fault wrote
  -- it was stopped before anything was done, or did what the words and the known files ask for
  pub does : (files : Names) → known ≡ Some files → StopsFirst fault wrote
      ⊎ ((job : Result Job Fault) × AsksWords (errand_in words) files job
      × DoesAsked job fault wrote)
  -- and where they ask for a job, it is that job and no other
  pub only : (files : Names) (job : Job) → known ≡ Some files
      → AsksWords (errand_in words) files (Ok job) → Does job fault wrote

-- the whole call
pub record Call (words : List (List ℕ)) (known : Option Names) (before now : FaultCounts)
    (out err : Given) (status : ℕ) : Type 0 where
  pub fault : Option Fault
  pub status_is : status ≡ status_of fault
  pub ran : DidCommand words known before now out.written_before out.written_now fault
  pub says : WritesLine (fault_line fault) err

-- a job that no source's lines stop
abbrev pub IsWhole : Job → Type 0
IsWhole (RunOver form query arrivals) = AllEnd arrivals
IsWhole (AnswerAt query items t) = ⊤
IsWhole (PrintOf query) = ⊤
IsWhole (DeriveBy query d) = ⊤

-- Words and known files that ask for a job, with no count rising, give the status of success or
-- that of out of memory.
abbrev pub IsComplete : List (List ℕ) → Option Names → FaultCounts → FaultCounts → ℕ → Type 0
IsComplete words known before now status =
    (files : Names) (job : Job) → known ≡ Some files → AsksWords (errand_in words) files (Ok job)
    → IsWhole job
    → ((name : List ℕ) → ¬ (Rose (before.files name) (now.files name)))
    → ¬ (Rose before.out now.out) → (status ≡ 0) ⊎ (status ≡ 6)
