-- What bytes are, read as a text, by whether they are UTF-8; and the digits of a number, one by
-- one.
use Rattle.std.proofs.Common.{◌≡◌, ℕ, ◌+◌, ◌-◌, ◌*◌, ◌^◌, ◌<◌, ◌≤◌, Bool, true, false, min, List}
use Rattle.std.proofs.Common.{length, get_or, take, Ok, Err, refl, ◌∙◌, sym, arith}
use Rattle.std.specs.Char.{is_ascii_digit}
use Rattle.std.specs.Int.{IsInRange}
use Rattle.std.specs.List.{list_all}
use Rattle.std.specs.Prelude.{IsUtf8, nat_lt}
use Rattle.std.specs.Str.{is_utf8}
use Rattle.std.specs.Str.Parse.{digits_value}
use Rattle.std.proofs.lemmas.Bool.Decides.{nat_tests}
use Rattle.std.proofs.lemmas.Int.Digits.{digits_value_more}
use Rattle.std.proofs.lemmas.List.Folds.{list_all_more}
use Rattle.std.proofs.lemmas.Str.{is_utf8-from_IsUtf8, IsUtf8-from_is_utf8, digit_value_digit}
use Rattle.pipes_tuple.specs.declared.read.ValueRefusal.TheVariants.{NotUtf8}
use Rattle.pipes_tuple.specs.declared.value.Value.TheVariants.{Text}
use Rattle.pipes_tuple.specs.Reading.{text_reading}

pub text_reading-utf8 : (bytes : List ℕ) → length bytes ≤ 65535 → IsUtf8 bytes
    → text_reading bytes ≡ Ok (Text bytes)
text_reading-utf8 bytes short text =
    let valid = is_utf8-from_IsUtf8 bytes text in
    let fits : nat_lt 65535 (length bytes) ≡ false = grind (arith, nat_tests) in
    rw (fits, valid)

not_utf8 : (bytes : List ℕ) (b : Bool) → b ≡ is_utf8 bytes → ¬ (IsUtf8 bytes) → b ≡ false
not_utf8 bytes true e other = absurd (other (IsUtf8-from_is_utf8 bytes (sym e)))
not_utf8 bytes false e other = refl

pub text_reading-not_utf8 : (bytes : List ℕ) → length bytes ≤ 65535 → ¬ (IsUtf8 bytes)
    → text_reading bytes ≡ Err NotUtf8
text_reading-not_utf8 bytes short other =
    let invalid = not_utf8 bytes (is_utf8 bytes) refl other in
    let fits : nat_lt 65535 (length bytes) ≡ false = grind (arith, nat_tests) in
    rw (fits, invalid)

-- one digit more
pub digits-more : (digits : List ℕ) (i size : ℕ) → i < length digits
    → IsInRange 48 57 (get_or digits i 0)
    → list_all is_ascii_digit (take i digits) ≡ true
    → size ≡ min (digits_value 10 (take i digits)) (2 ^ 64 - 1)
    → (list_all is_ascii_digit (take (i + 1) digits) ≡ true)
    × (min (min (size * 10) (2 ^ 64 - 1) + (get_or digits i 0 - 48)) (2 ^ 64 - 1) ≡ min
    (digits_value 10 (take (i + 1) digits)) (2 ^ 64 - 1))
digits-more digits i size h digit all number =
    let passes : is_ascii_digit (get_or digits i 0) ≡ true = grind (arith, nat_tests) in
    let next = list_all_more is_ascii_digit digits i 0 h in
    let more = digits_value_more 10 digits i h in
    let value = digit_value_digit (get_or digits i 0) digit in
    (next ∙ rw (all, passes), omega (arith, more, value))
