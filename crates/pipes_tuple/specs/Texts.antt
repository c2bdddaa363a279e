-- The texts of values.
use Rattle.std.specs.Prelude.{ℕ, Bool, List, [], ◌∷◌, ◌++◌, true, false, codes, ◌==◌, ◌||◌}
use Rattle.std.specs.Prelude.{if◌then◌else◌}
use Rattle.std.specs.Fmt.{signed_decimal}
use Rattle.std.specs.List.{flat_map}
use Rattle.pipes_tuple.specs.declared.value.Value.{Value}
use Rattle.pipes_tuple.specs.declared.value.Value.TheVariants.{Int, Text, Flag}

-- a byte that does not stand for itself between quotes: a backslash, a quote, LF or CR
abbrev pub is_escaped : ℕ → Bool
is_escaped byte = byte == 92 || byte == 34 || byte == 10 || byte == 13

-- a byte of a text, as it is between quotes
abbrev pub escaped_byte : ℕ → List ℕ
escaped_byte byte =
    if byte == 92 then codes "\\\\"
    else if byte == 34 then codes "\\\""
    else if byte == 10 then codes "\\n"
    else if byte == 13 then codes "\\r"
    else byte ∷ []

-- a text's bytes, as they are between quotes
abbrev pub escaped : List ℕ → List ℕ
escaped bytes = flat_map escaped_byte bytes

-- a text between quotes
abbrev pub quoted : List ℕ → List ℕ
quoted bytes = 34 ∷ escaped bytes ++ 34 ∷ []

-- A value's one text: an integer in decimal, with a minus sign where it is negative, a text between
-- quotes, `true` or `false`.
abbrev pub text_of : Value → List ℕ
text_of (Int n) = signed_decimal n
text_of (Text bytes) = quoted bytes
text_of (Flag true) = codes "true"
text_of (Flag false) = codes "false"
