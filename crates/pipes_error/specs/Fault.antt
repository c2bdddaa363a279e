-- Why a call ends with another status than 0, and the line that tells of it.
use Rattle.std.specs.Prelude.{◌≡◌, ℕ, ◌<◌, List, [], ◌∷◌, ◌++◌, flat_map, length, take, Option}
use Rattle.std.specs.Prelude.{Some, None, codes}
use Rattle.std.specs.Fmt.{decimal}
use Rattle.std.specs.Io.KnownBytes.{Appends}
use Rattle.pipes_tuple.specs.Texts.{quoted}
use Rattle.pipes_tuple.specs.declared.read.ValueRefusal.{ValueRefusal}
use Rattle.pipes_tuple.specs.declared.read.ValueRefusal.TheVariants as values
use Rattle.pipes_token.specs.declared.refusal.TextWhy.{TextWhy}
use Rattle.pipes_token.specs.declared.refusal.TextWhy.TheVariants as texts
use Rattle.pipes_token.specs.declared.refusal.TextRefusal.{TextRefusal}
use Rattle.pipes_expr.specs.declared.why.Why.{Why}
use Rattle.pipes_expr.specs.declared.why.Why.TheVariants as types
use Rattle.pipes_plan.specs.declared.fault.TypeRefusal.{TypeRefusal}
use Rattle.pipes_feed.specs.declared.reason.RowWhy.{RowWhy}
use Rattle.pipes_feed.specs.declared.reason.RowWhy.TheVariants as rows
use Rattle.pipes_edge.specs.Causes.{Rose}
use Rattle.pipes_error.specs.declared.FileName.{FileName}
use Rattle.pipes_error.specs.declared.FileName.TheVariants as names
use Rattle.pipes_error.specs.declared.Fault.{Fault as Kept}
use Rattle.pipes_error.specs.declared.Fault.TheVariants as kept

-- Files and sources are given by their names.
pub data Fault : Type 0 where
  -- the words are no command
  Words : Fault
  -- the query's text has no reading
  QueryText : TextRefusal → Fault
  -- the query's plan does not check
  QueryType : TypeRefusal → Fault
  -- the text of the derivation with this name has no reading
  DerivationText : List ℕ → TextRefusal → Fault
  -- what was read is not served yet
  Unbuilt : Fault
  -- there is no such file
  Missing : List ℕ → Fault
  -- a file was not read, before anything was written
  ReadFile : List ℕ → Fault
  -- a source was not read on, in a run
  ReadSource : List ℕ → Fault
  -- a line of a source is refused
  Row : List ℕ → ℕ → RowWhy → Fault
  -- a line of a source is past a limit
  Limit : List ℕ → ℕ → Fault
  Write : Fault
  Memory : Fault

abbrev pub status_of : Option Fault → ℕ
status_of None = 0
status_of (Some Words) = 1
status_of (Some (QueryText refusal)) = 2
status_of (Some (QueryType refusal)) = 2
status_of (Some (Row source line why)) = 3
status_of (Some (Missing name)) = 4
status_of (Some (ReadFile name)) = 4
status_of (Some (ReadSource name)) = 4
status_of (Some Write) = 5
status_of (Some Memory) = 6
status_of (Some (DerivationText name refusal)) = 7
status_of (Some (Limit source line)) = 8
status_of (Some Unbuilt) = 9

abbrev pub text_why : TextWhy → List ℕ
text_why texts.Byte = codes "byte"
text_why texts.Token = codes "token"
text_why texts.Ended = codes "end"
text_why texts.Name = codes "name"
text_why texts.Range = codes "range"
text_why texts.Deep = codes "deep"
text_why texts.Many = codes "many"
text_why texts.Long = codes "long"
text_why texts.Mode = codes "mode"

abbrev pub type_why : Why → List ℕ
type_why types.TooMany = codes "many"
type_why types.TooDeep = codes "deep"
type_why types.NoSource = codes "source"
type_why types.NoColumn = codes "column"
type_why types.WrongKind = codes "kind"
type_why types.Width = codes "width"

-- Out of memory is no refusal of a value: a row is never refused for it.
abbrev pub value_why : ValueRefusal → List ℕ
value_why values.NotInt = codes "int"
value_why values.IntRange = codes "intrange"
value_why values.NotUtf8 = codes "utf8"
value_why values.TooLong = codes "long"
value_why values.NotFlag = codes "flag"
value_why values.Memory = []

abbrev pub row_parts : RowWhy → List (List ℕ)
row_parts rows.Header = codes "header" ∷ []
row_parts rows.Fields = codes "fields" ∷ []
row_parts rows.Stamp = codes "stamp" ∷ []
row_parts rows.Range = codes "range" ∷ []
row_parts (rows.Falling stamp last) = codes "falling" ∷ decimal stamp ∷ decimal last ∷ []
row_parts (rows.Value column why) = codes "value" ∷ decimal column ∷ value_why why ∷ []

abbrev pub fault_parts : Fault → List (List ℕ)
fault_parts Words = codes "words" ∷ []
fault_parts (QueryText r) = codes "query" ∷ decimal r.line ∷ decimal r.column ∷ text_why r.why ∷ []
fault_parts (QueryType r) = codes "query" ∷ codes "type" ∷ decimal r.place ∷ type_why r.why ∷ []
fault_parts (DerivationText name r) = codes "derivation" ∷ quoted name ∷ decimal r.line
    ∷ decimal r.column ∷ text_why r.why ∷ []
fault_parts Unbuilt = codes "unbuilt" ∷ []
fault_parts (Missing name) = codes "missing" ∷ quoted name ∷ []
fault_parts (ReadFile name) = codes "read" ∷ quoted name ∷ []
fault_parts (ReadSource name) = codes "read" ∷ quoted name ∷ []
fault_parts (Row source line why) = codes "row" ∷ source ∷ decimal line ∷ row_parts why
fault_parts (Limit source line) = codes "limit" ∷ source ∷ decimal line ∷ []
fault_parts Write = codes "write" ∷ []
fault_parts Memory = codes "memory" ∷ []

-- `pipes:`, and each part after a space
abbrev pub line_of_parts : List (List ℕ) → List ℕ
line_of_parts parts = codes "pipes:" ++ flat_map (λ part. codes " " ++ part) parts ++ codes "\n"

-- the line that tells of a fault
abbrev pub fault_line : Option Fault → List ℕ
fault_line None = []
fault_line (Some fault) = line_of_parts (fault_parts fault)

abbrev pub name_seen : FileName → List ℕ
name_seen (names.Word name) = name.now
name_seen (names.OfSource name) = name

-- what the code's own fault stands for
abbrev pub fault_seen : Kept → Fault
fault_seen kept.Words = Words
fault_seen (kept.QueryText refusal) = QueryText refusal
fault_seen (kept.QueryType refusal) = QueryType refusal
fault_seen (kept.DerivationText name refusal) = DerivationText (name_seen name) refusal
fault_seen kept.Unbuilt = Unbuilt
fault_seen (kept.Missing name) = Missing (name_seen name)
fault_seen (kept.ReadFile name) = ReadFile (name_seen name)
fault_seen (kept.ReadSource name) = ReadSource name
fault_seen (kept.Row source line why) = Row source line why
fault_seen (kept.Limit source line) = Limit source line
fault_seen kept.Write = Write
fault_seen kept.Memory = Memory

-- a sink's known bytes and its count of faults, before a call and after it
pub record Given : Type 0 where
  pub written_before : Option (List ℕ)
  pub written_now : Option (List ℕ)
  pub faults_before : ℕ
  pub faults_now : ℕ

-- the text was written, or a prefix of it where a write failed
pub record WritesLine (text : List ℕ) (err : Given) : Type 0 where
  pub said : List ℕ
  pub appended : Appends err.written_before err.written_now said
  pub kept : ℕ
  pub prefix : said ≡ take kept text
  pub cut : kept < length text → Rose err.faults_before err.faults_now
