-- What reading gives, beside what the files hold.
use Rattle.std.specs.Prelude.{◌≡◌, ℕ, List, Option, Some, None, Result, Ok, Err, ⊤}
use Rattle.pipes_edge.specs.Causes.{Rose}
use Rattle.pipes_feed.specs.declared.reason.Reason.{Reason}
use Rattle.pipes_feed.specs.declared.reason.Reason.TheVariants as reason
use Rattle.pipes_error.specs.Fault.{Fault, Words, QueryText, QueryType, DerivationText, Unbuilt}
use Rattle.pipes_error.specs.Fault.{Missing, ReadFile}
use Rattle.pipes_error.specs.Fault.{ReadSource, Row, Limit, Write, Memory}
use Rattle.pipes_answer.specs.declared.source.SourceFault.{SourceFault}
use Rattle.pipes_answer.specs.declared.source.SourceFault.TheVariants as source

-- a fault that reading whole sources meets
abbrev pub IsOfReading : Fault → Type 0
IsOfReading Words = ⊥
IsOfReading (QueryText refusal) = ⊥
IsOfReading (QueryType refusal) = ⊥
IsOfReading (DerivationText file refusal) = ⊥
IsOfReading Unbuilt = ⊥
IsOfReading (Missing name) = ⊤
IsOfReading (ReadFile name) = ⊤
IsOfReading (ReadSource name) = ⊥
IsOfReading (Row name line why) = ⊤
IsOfReading (Limit name line) = ⊤
IsOfReading Write = ⊥
IsOfReading Memory = ⊤

-- a read fails only where the count of its file's name rose
abbrev pub HasAnswerCause : (List ℕ → ℕ) → (List ℕ → ℕ) → Fault → Type 0
HasAnswerCause before now (ReadFile name) = Rose (before name) (now name)
HasAnswerCause before now fault = ⊤

-- the fault is the one that the files decide, or one that nobody knows before
abbrev pub Refuses : {T : Type 0} → Result T Fault → Fault → Type 0
Refuses asked (ReadFile name) = ⊤
Refuses asked Memory = ⊤
Refuses asked fault = asked ≡ Err fault

-- what was given stands for what was asked for, or it was refused
abbrev pub GivesAnswer : {S T E : Type 0} → (S → T → Type 0) → (E → Fault) → Result S E
    → Result T Fault
    → Type 0
GivesAnswer {T = T} StandsFor view (Ok x) asked = (y : T) × (asked ≡ Ok y) × StandsFor x y
GivesAnswer StandsFor view (Err e) asked = Refuses asked (view e)

-- what the fault of a source of this name and file stands for
abbrev pub answer_fault : List ℕ → List ℕ → SourceFault → Fault
answer_fault name file source.Missing = Missing file
answer_fault name file source.Failed = ReadFile file
answer_fault name file (source.Row line why) = Row name line why
answer_fault name file (source.Limit line) = Limit name line
answer_fault name file source.Memory = Memory

-- why a source whose items end so was not read to its end
abbrev pub source_refusal : Reason → Option SourceFault
source_refusal reason.AtEnd = None
source_refusal (reason.Row line why) = Some (source.Row line why)
source_refusal (reason.Limit line) = Some (source.Limit line)
source_refusal reason.Failed = Some source.Failed
source_refusal reason.Memory = Some source.Memory
