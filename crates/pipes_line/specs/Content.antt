-- What `csv` finds in the bytes of one line, which it reads as an input of their own.
use Rattle.std.specs.Prelude.{◌≡◌, ℕ, List, [], Option, Some, None}
use Rattle.csv.specs.Machine.{Read, next_record}
use Rattle.csv.specs.Reading.{default_config, strip_bom}
use Rattle.csv.specs.declared.parser.State.TheVariants as state
use Rattle.pipes_line.specs.declared.record.Shape.{Shape}
use Rattle.pipes_line.specs.declared.record.Shape.TheVariants.{Blank, Single, Several}

-- no record, the fields of the only one, or more than one
pub data Content : Type 0 where
  blank : Content
  single : List (List ℕ) → Content
  several : Content

-- by what follows the first record
abbrev pub after_record : List (List ℕ) → Option Read → Content
after_record fields None = single fields
after_record fields (Some second) = several

-- by the first record and what stands after it
abbrev pub content_by : Option Read → Content
content_by None = blank
content_by (Some first) = after_record first.0 (next_record default_config first.1 [] [] first.2)

-- what a line holds: `csv` drops a byte order mark and reads by its defaults
abbrev pub content_of : List ℕ → Content
content_of line = content_by (next_record default_config state.StartRecord [] [] (strip_bom line))

-- the shape says which, and the fields are those of the only record
abbrev pub Shows : Shape → List (List ℕ) → Content → Type 0
Shows Blank fields content = content ≡ blank
Shows Single fields content = content ≡ single fields
Shows Several fields content = content ≡ several
