-- What the words of a call and the files ask for.
use Rattle.std.specs.Prelude.{◌≡◌, ℕ, List, [], ◌∷◌, length, ◌==◌, if◌then◌else◌, Option, Some}
use Rattle.std.specs.Prelude.{None, Result, Ok, Err}
use Rattle.std.specs.Option.{ok_or}
use Rattle.pipes_edge.specs.Outside.{Names}
use Rattle.pipes_expr.specs.ExprWhys.{first_of}
use Rattle.pipes_plan.specs.Refusals.{Checks, refusals}
use Rattle.pipes_window.specs.declared.item.Item.{Item}
use Rattle.pipes_output.specs.declared.form.Form.{Form}
use Rattle.pipes_run.specs.Errand.{Errand, Run, At, Check, Derive}
use Rattle.pipes_feed.specs.Items.{Items, arrivals_of}
use Rattle.pipes_query.specs.declared.query.Query.{Query}
use Rattle.pipes_query.specs.declared.query.SourceDecl.{SourceDecl}
use Rattle.pipes_text.specs.Texts.{IsFileOfQuery}
use Rattle.pipes_text.specs.Texts.{IsRefusedQuery}
use Rattle.pipes_token.specs.declared.refusal.TextRefusal.{TextRefusal}
use Rattle.pipes_derivation.specs.declared.derivation.Derivation.{Derivation}
use Rattle.pipes_derivation.specs.Texts.{IsFileOfDerivation, IsRefusedDerivation}
use Rattle.pipes_semantics.specs.Answer.{schemas_of}
use Rattle.pipes_error.specs.Fault.{Fault, Words, QueryText, QueryType, DerivationText, Unbuilt}
use Rattle.pipes_error.specs.Fault.{Missing, ReadFile}
use Rattle.pipes_error.specs.Fault.{ReadSource, Row, Limit, Write, Memory}
use Rattle.pipes_time.specs.Results.{◌>>=◌}
use Rattle.pipes_answer.specs.Whole.{whole_items}

-- What there is to do: a run in a form over the arrivals of its sources; the answer at an instant
-- over all items; the print of a query that checks; or whether a derivation leads from its plan.
pub data Job : Type 0 where
  RunOver : Form → Query → List Items → Job
  AnswerAt : Query → List (List Item) → ℕ → Job
  PrintOf : Query → Job
  DeriveBy : Query → Derivation → Job

-- The query that the bytes write and that checks, or why there is none: the text is refused, or the
-- first node of its plan that is.
abbrev pub IsQueryText : List ℕ → Result Query Fault → Type 0
IsQueryText bytes (Ok query) = IsFileOfQuery query bytes × Checks (schemas_of query) query.plan
IsQueryText bytes (Err (QueryText refusal)) = IsRefusedQuery bytes refusal
IsQueryText bytes (Err (QueryType refusal)) = (query : Query) × IsFileOfQuery query bytes
    × (first_of (refusals (schemas_of query) query.plan) ≡ Some refusal)
IsQueryText bytes (Err Words) = ⊥
IsQueryText bytes (Err (DerivationText name refusal)) = ⊥
IsQueryText bytes (Err Unbuilt) = ⊥
IsQueryText bytes (Err (Missing name)) = ⊥
IsQueryText bytes (Err (ReadFile name)) = ⊥
IsQueryText bytes (Err (ReadSource name)) = ⊥
IsQueryText bytes (Err (Row source line why)) = ⊥
IsQueryText bytes (Err (Limit source line)) = ⊥
IsQueryText bytes (Err Write) = ⊥
IsQueryText bytes (Err Memory) = ⊥

-- the same of the file with this name
abbrev pub IsQueryFile : List ℕ → Option (List ℕ) → Result Query Fault → Type 0
IsQueryFile name None query = query ≡ Err (Missing name)
IsQueryFile name (Some bytes) query = IsQueryText bytes query

-- the derivation, over the query's sources, that the file with this name holds, or why it holds
-- none
abbrev pub IsDerivationFile : Query → List ℕ → Option (List ℕ) → Result Derivation Fault → Type 0
IsDerivationFile query name None given = given ≡ Err (Missing name)
IsDerivationFile query name (Some bytes) (Ok d) = IsFileOfDerivation query d bytes
IsDerivationFile query name (Some bytes) (Err fault) = (refusal : TextRefusal)
    × (fault ≡ DerivationText name refusal) × IsRefusedDerivation query bytes refusal

-- an empty script, of the file with the name
abbrev pub is_empty_script : Names → List ℕ → Result (Unit {0}) Fault
is_empty_script files name = ok_or (files name) (Missing name)
    >>= λ bytes. if length bytes == 0 then Ok
    tt else Err Unbuilt

-- the arrivals of each source, and how they end, or the first source whose file is missing
abbrev pub arrivals_in : Names → List SourceDecl → Result (List Items) Fault
arrivals_in files [] = Ok []
arrivals_in files (s ∷ ss) = do
  bytes ← ok_or (files s.file) (Missing s.file)
  others ← arrivals_in files ss
  Ok (arrivals_of s.schema s.slack bytes ∷ others)

-- the name of the query's file
abbrev pub query_name : Errand → List ℕ
query_name (Run query script form) = query
query_name (At query time) = query
query_name (Check query) = query
query_name (Derive query derivation) = query

-- what there is to do in a run, or the first fault that the files decide
abbrev pub run_job : List ℕ → Form → Names → Query → Result Job Fault
run_job script form files query = do
  nothing ← is_empty_script files script
  arrivals ← arrivals_in files query.sources
  Ok (RunOver form query arrivals)

-- the same of an answer
abbrev pub answer_job : ℕ → Names → Query → Result Job Fault
answer_job time files query = do
  items ← whole_items files query.sources
  Ok (AnswerAt query items time)

-- what there is to do once the query is read, or the first fault that the files decide
abbrev pub IsJobOf : Errand → Names → Query → Result Job Fault → Type 0
IsJobOf (Run name script form) files query job = job ≡ run_job script form files query
IsJobOf (At name time) files query job = job ≡ answer_job time files query
IsJobOf (Check name) files query job = job ≡ Ok (PrintOf query)
IsJobOf (Derive name file) files query job = (given : Result Derivation Fault)
    × IsDerivationFile query file (files file) given
    × (job ≡ (given >>= λ d. Ok (DeriveBy query d)))

abbrev pub IsJobAfter : Errand → Names → Result Query Fault → Result Job Fault → Type 0
IsJobAfter errand files (Ok query) job = IsJobOf errand files query job
IsJobAfter errand files (Err refused) job = job ≡ Err refused

-- what an errand asks for: the query comes first
abbrev pub Asks : Errand → Names → Result Job Fault → Type 0
Asks errand files job = (query : Result Query Fault) × IsQueryFile (query_name errand)
    (files (query_name errand)) query × IsJobAfter errand files query job

-- what the words ask for, by what they are for
abbrev pub AsksWords : Result Errand Fault → Names → Result Job Fault → Type 0
AsksWords (Err refused) files job = job ≡ Err refused
AsksWords (Ok errand) files job = Asks errand files job
