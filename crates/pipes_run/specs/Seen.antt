-- What steps of a call answer, beside what the words and the files ask for.
use Rattle.std.specs.Prelude.{◌≡◌, ◌⊎◌, ℕ, List, Option, Some, None, Result, Ok, Err, ⊤}
use Rattle.pipes_edge.specs.Causes.{Rose}
use Rattle.pipes_buffer.specs.Pieces.{ReadsUpTo}
use Rattle.pipes_buffer.specs.declared.IoFault.{IoFault}
use Rattle.pipes_buffer.specs.declared.IoFault.TheVariants as io
use Rattle.pipes_query.specs.declared.query.Query.{Query}
use Rattle.pipes_text.specs.Texts.{IsFileOfQuery}
use Rattle.pipes_error.specs.declared.Fault.{Fault as Kept}
use Rattle.pipes_error.specs.Fault.{Fault, QueryText, QueryType, DerivationText, Missing, ReadFile}
use Rattle.pipes_error.specs.Fault.{Write, Memory}
use Rattle.pipes_error.specs.Fault.{fault_seen}
use Rattle.pipes_expr.specs.ExprWhys.{first_of}
use Rattle.pipes_plan.specs.Refusals.{Checks, refusals}
use Rattle.pipes_semantics.specs.Answer.{schemas_of}
use Rattle.pipes_plan.specs.PlanKinds.{plan_kinds}
use Rattle.pipes_run.specs.declared.query.CheckedQuery.{CheckedQuery}
use Rattle.pipes_run.specs.declared.file.FileFault.{FileFault}
use Rattle.pipes_run.specs.declared.file.FileFault.TheVariants as file
use Rattle.pipes_derivation.specs.declared.derivation.Derivation.{Derivation}
use Rattle.pipes_run.specs.Asked.{IsQueryFile, IsDerivationFile}

-- the fault that a step ended with, if there was one
abbrev pub step_fault : {T : Type 0} → Result T Kept → Option Fault
step_fault (Ok x) = None
step_fault (Err fault) = Some (fault_seen fault)

-- all bytes of the file, or more than the limit of a file that has more
abbrev pub ReadsFile : ℕ → Option (List ℕ) → List ℕ → Type 0
ReadsFile limit file bytes = (whole : List ℕ) × (file ≡ Some whole) × ReadsUpTo limit whole bytes

-- a fault that nobody knows before: a failed read, or out of memory
abbrev pub IsFree : Fault → Type 0
IsFree (ReadFile name) = ⊤
IsFree Memory = ⊤
IsFree fault = ⊥

-- a fault of the reading of a query
abbrev pub IsOfQuery : Fault → Type 0
IsOfQuery (QueryText refusal) = ⊤
IsOfQuery (QueryType refusal) = ⊤
IsOfQuery (Missing name) = ⊤
IsOfQuery (ReadFile name) = ⊤
IsOfQuery Memory = ⊤
IsOfQuery fault = ⊥

-- a fault of a query's text
abbrev pub IsOfText : Fault → Type 0
IsOfText (QueryText refusal) = ⊤
IsOfText (QueryType refusal) = ⊤
IsOfText Memory = ⊤
IsOfText fault = ⊥

-- a read fails only of the file with this name, and where its count rose
abbrev pub IsReadOf : List ℕ → (List ℕ → ℕ) → (List ℕ → ℕ) → Fault → Type 0
IsReadOf name before now (ReadFile other) = (other ≡ name) × Rose (before name) (now name)
IsReadOf name before now fault = ⊤

-- a query is the one that the file holds, and a fault the one that the file decides, or a free one
abbrev pub GivesQuery : List ℕ → Option (List ℕ) → Result CheckedQuery Kept → Type 0
GivesQuery name file (Ok checked) = IsQueryFile name file (Ok checked.query)
GivesQuery name file (Err fault) = IsQueryFile name file (Err (fault_seen fault))
    ⊎ IsFree (fault_seen fault)

-- the query is this one, and only a free fault stands in its place
abbrev pub GivesNoOther : Query → Result CheckedQuery Kept → Type 0
GivesNoOther query (Ok checked) = checked.query ≡ query
GivesNoOther query (Err fault) = IsFree (fault_seen fault)

-- the query's result has these columns
abbrev pub HasSchema : CheckedQuery → Type 0
HasSchema checked = plan_kinds checked.query.plan (schemas_of checked.query) ≡ Some checked.schema

-- the query's plan checks
abbrev pub HasChecked : CheckedQuery → Type 0
HasChecked checked = Checks (schemas_of checked.query) checked.query.plan

-- the first refusal of the query's plan, or out of memory
abbrev pub IsTypeRefusal : Query → Fault → Type 0
IsTypeRefusal query (QueryType refusal) = first_of (refusals (schemas_of query) query.plan) ≡ Some
    refusal
IsTypeRefusal query Memory = ⊤
IsTypeRefusal query fault = ⊥

-- the query is that of a text
abbrev pub HasQueryText : Query → Type 0
HasQueryText query = (bytes : List ℕ) × IsFileOfQuery query bytes

-- the fault that writing ended with, if there was one
abbrev pub io_fault_of : Result (Unit {0}) IoFault → Option Fault
io_fault_of (Ok u) = None
io_fault_of (Err io.Failed) = Some Write
io_fault_of (Err io.Memory) = Some Memory

-- the fault of a file that a word names
abbrev pub word_fault_of : List ℕ → FileFault → Fault
word_fault_of name file.Missing = Missing name
word_fault_of name file.Failed = ReadFile name
word_fault_of name file.Memory = Memory

-- ---- derivations

-- a fault of the reading of a derivation
abbrev pub IsOfDerivation : Fault → Type 0
IsOfDerivation (DerivationText name refusal) = ⊤
IsOfDerivation (Missing name) = ⊤
IsOfDerivation (ReadFile name) = ⊤
IsOfDerivation Memory = ⊤
IsOfDerivation fault = ⊥

-- a fault of a derivation's text
abbrev pub IsOfDerivationText : Fault → Type 0
IsOfDerivationText (DerivationText name refusal) = ⊤
IsOfDerivationText Memory = ⊤
IsOfDerivationText fault = ⊥

-- a derivation is the one that the file holds, and a fault the one that the file decides, or a free
-- one
abbrev pub GivesDerivation : Query → List ℕ → Option (List ℕ) → Result Derivation Kept → Type 0
GivesDerivation query name file (Ok d) = IsDerivationFile query name file (Ok d)
GivesDerivation query name file (Err fault) =
    IsDerivationFile query name file (Err (fault_seen fault)) ⊎ IsFree (fault_seen fault)

-- the derivation is this one, and only a free fault stands in its place
abbrev pub GivesThis : Derivation → Result Derivation Kept → Type 0
GivesThis d (Ok given) = given ≡ d
GivesThis d (Err fault) = IsFree (fault_seen fault)
