-- What a line of a source is.
use Rattle.std.specs.Prelude.{ℕ, ◌+◌, List, [], ◌∷◌, length, nat_lt, ◌==◌, ◌||◌, if◌then◌else◌}
use Rattle.std.specs.Prelude.{Result, Ok, Err}
use Rattle.std.specs.Str.Lines.{strip_carriage_return}
use Rattle.std.specs.Str.Parse.{digits_value}
use Rattle.pipes_time.specs.Results.{◌>>=◌}
use Rattle.pipes_time.specs.Interval.{horizon}
use Rattle.pipes_tuple.specs.declared.value.Kind.{Kind}
use Rattle.pipes_tuple.specs.declared.value.Value.{Value}
use Rattle.pipes_tuple.specs.declared.read.ValueRefusal.{ValueRefusal}
use Rattle.pipes_tuple.specs.Reading.{is_numeral, reading}
use Rattle.pipes_window.specs.declared.item.Item.{Item}
use Rattle.pipes_window.specs.declared.item.Item.TheVariants.{Row, Beat}
use Rattle.pipes_line.specs.Content.{Content, blank, single, several, content_of}
use Rattle.pipes_line.specs.Lines.{Line, size_of}
use Rattle.pipes_feed.specs.declared.reason.RowWhy.{RowWhy}
use Rattle.pipes_feed.specs.declared.reason.RowWhy.TheVariants as why
use Rattle.pipes_feed.specs.declared.line.Verdict.{Verdict}
use Rattle.pipes_feed.specs.declared.line.Verdict.TheVariants.{Pass, Give, Refuse, Limit}
use Rattle.pipes_feed.specs.Reached.{Reached, stamp_floor, most_bytes, most_items}

-- how many fields stand beside the stamp: none, or one for each column
abbrev pub columns_of : List Kind → ℕ → Result ℕ RowWhy
columns_of kinds count = if (count == 0) || (count == length kinds) then Ok count else Err
    why.Fields

-- a stamp: one or more digits, and a number below the horizon
abbrev pub stamp_of : List ℕ → Result ℕ RowWhy
stamp_of field =
    if is_numeral field
    then (if nat_lt (digits_value 10 field) horizon then Ok (digits_value 10 field) else Err
    why.Range)
    else Err why.Stamp

-- a stamp that is not below the floor
abbrev pub at_floor : ℕ → ℕ → Result ℕ RowWhy
at_floor low stamp = if nat_lt stamp low then Err (why.Falling stamp low) else Ok stamp

-- a value, or why the field of this column is none
abbrev pub field_value : ℕ → Result Value ValueRefusal → Result Value RowWhy
field_value column (Ok value) = Ok value
field_value column (Err refusal) = Err (why.Value column refusal)

-- the values of the columns from this one on, the leftmost refusal first
abbrev pub field_values : ℕ → List Kind → List (List ℕ) → Result (List Value) RowWhy
field_values column [] fields = Ok []
field_values column (kind ∷ kinds) [] = Err why.Fields
field_values column (kind ∷ kinds) (field ∷ fields) =
    field_value column (reading kind field) >>= λ value.
    field_values (column + 1) kinds fields >>= λ values. Ok (value ∷ values)

-- a stamp alone is a heartbeat, and a row has values beside it
abbrev pub item_with : List Kind → ℕ → List (List ℕ) → Result Item RowWhy
item_with kinds stamp fields =
    if length fields == 0 then Ok (Beat stamp)
    else (field_values 0 kinds fields >>= λ tuple. Ok (Row stamp tuple))

-- the arrival that a record is, where this is the floor
abbrev pub item_of : List Kind → ℕ → List (List ℕ) → Result Item RowWhy
item_of kinds low [] = Err why.Fields
item_of kinds low (field ∷ fields) =
    columns_of kinds (length fields) >>= λ count.
    stamp_of field >>= at_floor low >>= λ stamp. item_with kinds stamp fields

-- an item, or a refusal
abbrev pub verdict_of : Result Item RowWhy → Verdict
verdict_of (Ok item) = Give item
verdict_of (Err refusal) = Refuse refusal

-- line 1: one record with one field more than there are columns, whose texts do not matter
abbrev pub judge_header : List Kind → Content → Verdict
judge_header kinds blank = Refuse why.Header
judge_header kinds (single fields) = if length fields == length kinds + 1 then Pass else Refuse
    why.Header
judge_header kinds several = Refuse why.Header

-- a record, unless there are already as many items as there may be
abbrev pub counted : Reached → Verdict → Verdict
counted reached verdict = if reached.items == most_items then Limit else verdict

-- a later line
abbrev pub judge_later : List Kind → ℕ → Reached → Content → Verdict
judge_later kinds slack reached blank = Pass
judge_later kinds slack reached (single fields) =
    counted reached (verdict_of (item_of kinds (stamp_floor slack reached) fields))
judge_later kinds slack reached several = counted reached (Refuse why.Fields)

-- a line by what it holds
abbrev pub judge_content : List Kind → ℕ → Reached → Content → Verdict
judge_content kinds slack reached content =
    if reached.lines == 0 then judge_header kinds content else judge_later kinds slack reached
    content

-- a line: its bytes are counted first, and one carriage return before its end is dropped
unfoldable pub judge : List Kind → ℕ → Reached → Line → Verdict
judge kinds slack reached line =
    if nat_lt most_bytes (reached.bytes + size_of line) then Limit
    else judge_content kinds slack reached (content_of (strip_carriage_return line.text))
