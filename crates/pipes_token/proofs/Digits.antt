-- The number that digits write, one by one.
use Rattle.std.proofs.Common.{◌≡◌, ℕ, ◌+◌, ◌-◌, ◌*◌, ◌^◌, ◌<◌, true, min, List, length, get_or}
use Rattle.std.proofs.Common.{take, arith}
use Rattle.std.specs.Char.{is_ascii_digit}
use Rattle.std.specs.Int.{IsInRange}
use Rattle.std.specs.List.{list_all}
use Rattle.std.specs.Str.Parse.{digits_value}
use Rattle.std.proofs.lemmas.Bool.Decides.{nat_tests}
use Rattle.std.proofs.lemmas.Int.Digits.{digits_value_more}
use Rattle.std.proofs.lemmas.List.Sums.{AllPass-from_list_all}
use Rattle.std.proofs.lemmas.List.Elements.{All-get_or}
use Rattle.std.proofs.lemmas.Str.{digit_value_digit}

pub digit_at : (digits : List ℕ) (i : ℕ) → list_all is_ascii_digit digits ≡ true → i < length digits
    → IsInRange 48 57 (get_or digits i 0)
digit_at digits i all h =
    let passes : is_ascii_digit (get_or digits i 0) ≡ true =
    All-get_or (λ x. is_ascii_digit x ≡ true) digits i 0 h
    (AllPass-from_list_all is_ascii_digit digits all) in
    grind (arith, nat_tests)

-- one digit more
pub more_digits : (digits : List ℕ) (i value : ℕ) → list_all is_ascii_digit digits ≡ true
    → i < length digits
    → value ≡ min (digits_value 10 (take i digits)) (2 ^ 64 - 1)
    → min (min (value * 10) (2 ^ 64 - 1) + (get_or digits i 0 - 48)) (2 ^ 64 - 1) ≡ min
    (digits_value 10 (take (i + 1) digits)) (2 ^ 64 - 1)
more_digits digits i value all h number =
    let digit = digit_at digits i all h in
    let more = digits_value_more 10 digits i h in
    let read = digit_value_digit (get_or digits i 0) digit in
    omega (arith, more, read, digit.0, digit.1)
