-- Values and tuples within the limits of their types.
use Rattle.std.specs.Prelude.{◌≤◌, List, length, FitsSigned, IsUtf8}
use Rattle.std.specs.List.{All}
use Rattle.std.specs.Int.{w64}
use Rattle.pipes_tuple.specs.declared.value.Value.{Value}
use Rattle.pipes_tuple.specs.declared.value.Value.TheVariants.{Int, Text, Flag}

-- an integer of 64 bits, a text of UTF-8 with at most 65,535 bytes, or a flag
abbrev pub IsValue : Value → Type 0
IsValue (Int n) = FitsSigned w64 n
IsValue (Text bytes) = IsUtf8 bytes × (length bytes ≤ 65535)
IsValue (Flag flag) = Unit {0}

-- 1 to 32 values
abbrev pub IsTuple : List Value → Type 0
IsTuple tuple = (1 ≤ length tuple) × (length tuple ≤ 32) × All IsValue tuple
