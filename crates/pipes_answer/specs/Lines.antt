-- The lines of an answer.
use Rattle.std.specs.Prelude.{ℕ, List, ◌++◌, codes, flat_map}
use Rattle.std.specs.List.{join_by}
use Rattle.pipes_tuple.specs.declared.value.Value.{Value}
use Rattle.pipes_tuple.specs.Texts.{text_of}

-- the values' texts, separated by one space, and a line feed
abbrev pub tuple_line : List Value → List ℕ
tuple_line tuple = join_by text_of (codes " ") tuple ++ codes "\n"

abbrev pub tuple_lines : List (List Value) → List ℕ
tuple_lines tuples = flat_map tuple_line tuples
