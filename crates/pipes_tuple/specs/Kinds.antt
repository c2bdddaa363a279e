-- The kinds of values, and of tuples.
use Rattle.std.specs.Prelude.{◌≡◌, ℕ, List, Option, Some, None, map, codes, bytes_eq, if◌then◌else◌}
use Rattle.pipes_tuple.specs.declared.value.Kind.{Kind}
use Rattle.pipes_tuple.specs.declared.value.Kind.TheVariants as kind
use Rattle.pipes_tuple.specs.declared.value.Value.{Value}
use Rattle.pipes_tuple.specs.declared.value.Value.TheVariants.{Int, Text, Flag}

-- the kind of a value
abbrev pub kind_of : Value → Kind
kind_of (Int number) = kind.Int
kind_of (Text bytes) = kind.Text
kind_of (Flag flag) = kind.Flag

-- the values have the schema's kinds, in order, and there are no others of either
abbrev pub Fits : List Value → List Kind → Type 0
Fits tuple schema = map kind_of tuple ≡ schema

-- its place in the order of kinds: integers, then texts, then flags
abbrev pub kind_place : Kind → ℕ
kind_place kind.Int = 0
kind_place kind.Text = 1
kind_place kind.Flag = 2

-- its word
abbrev pub kind_word : Kind → List ℕ
kind_word kind.Int = codes "int"
kind_word kind.Text = codes "text"
kind_word kind.Flag = codes "flag"

-- the kind that has this word
abbrev pub kind_named : List ℕ → Option Kind
kind_named word =
    if bytes_eq word (kind_word kind.Int) then Some kind.Int
    else if bytes_eq word (kind_word kind.Text) then Some kind.Text
    else if bytes_eq word (kind_word kind.Flag) then Some kind.Flag
    else None
