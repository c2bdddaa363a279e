-- What bytes are, read as a value of a kind.
use Rattle.std.specs.Prelude.{ℕ, ◌-◌, ◌^◌, Bool, true, false, ◌&&◌, List, length, drop, ℤ, pos}
use Rattle.std.specs.Prelude.{negsuc, neg_ℤ, int_le, nat_lt, if◌then◌else◌, Result, Ok, Err}
use Rattle.std.specs.Prelude.{bytes_eq, codes}
use Rattle.std.specs.Char.{is_ascii_digit}
use Rattle.std.specs.List.{list_all}
use Rattle.std.specs.Str.{is_utf8}
use Rattle.std.specs.Str.Parse.{digits_value, starts_with_minus}
use Rattle.pipes_tuple.specs.declared.read.ValueRefusal.{ValueRefusal}
use Rattle.pipes_tuple.specs.declared.read.ValueRefusal.TheVariants.{NotInt, IntRange, NotUtf8}
use Rattle.pipes_tuple.specs.declared.read.ValueRefusal.TheVariants.{TooLong, NotFlag}
use Rattle.pipes_tuple.specs.declared.value.Kind.{Kind}
use Rattle.pipes_tuple.specs.declared.value.Kind.TheVariants as kind
use Rattle.pipes_tuple.specs.declared.value.Value.{Value}
use Rattle.pipes_tuple.specs.declared.value.Value.TheVariants.{Int, Text, Flag}

-- one or more decimal digits; leading zeros are digits like others
abbrev pub is_numeral : List ℕ → Bool
is_numeral bytes = nat_lt 0 (length bytes) && list_all is_ascii_digit bytes

-- the number that the digits write, after a minus sign or with none
abbrev pub signed_number : Bool → List ℕ → ℤ
signed_number minus digits = if minus then neg_ℤ (pos (digits_value 10 digits)) else pos
    (digits_value 10 digits)

-- the integers of 64 bits
abbrev pub is_i64 : ℤ → Bool
is_i64 n = int_le (negsuc (2 ^ 63 - 1)) n && int_le n (pos (2 ^ 63 - 1))

-- the integer that the digits write, after a minus sign or with none
abbrev pub number_reading : Bool → List ℕ → Result Value ValueRefusal
number_reading minus digits =
    if is_numeral digits
    then (if is_i64 (signed_number minus digits) then Ok
    (Int (signed_number minus digits)) else Err IntRange)
    else Err NotInt

-- an integer: a minus sign or none, and digits
abbrev pub int_reading : List ℕ → Result Value ValueRefusal
int_reading bytes = if starts_with_minus bytes then number_reading true
    (drop 1 bytes) else number_reading false bytes

-- a text: UTF-8 of at most 65,535 bytes, whose length is looked at first
abbrev pub text_reading : List ℕ → Result Value ValueRefusal
text_reading bytes =
    if nat_lt 65535 (length bytes) then Err TooLong
    else if is_utf8 bytes then Ok (Text bytes)
    else Err NotUtf8

-- a flag: one of two words
abbrev pub flag_reading : List ℕ → Result Value ValueRefusal
flag_reading bytes =
    if bytes_eq bytes (codes "true") then Ok (Flag true)
    else if bytes_eq bytes (codes "false") then Ok (Flag false)
    else Err NotFlag

-- the value of this kind that the bytes are, or why they are none
abbrev pub reading : Kind → List ℕ → Result Value ValueRefusal
reading kind.Int bytes = int_reading bytes
reading kind.Text bytes = text_reading bytes
reading kind.Flag bytes = flag_reading bytes
