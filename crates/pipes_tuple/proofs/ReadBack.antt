-- What is printed of an integer is read back.
use Rattle.std.proofs.Common.{◌≡◌, ℕ, suc, ◌<◌, ◌^◌, Bool, true, false, List, [], ◌∷◌, ℤ, pos}
use Rattle.std.proofs.Common.{negsuc, neg_ℤ, Ok, refl, ap, arith, w64, SFits}
use Rattle.std.specs.Char.{is_ascii_digit}
use Rattle.std.specs.Fmt.{decimal, signed_decimal}
use Rattle.std.specs.List.{list_all}
use Rattle.std.specs.Str.Parse.{AllDigits, IsNumeral, starts_with_minus}
use Rattle.std.proofs.lemmas.Bool.Decides.{nat_tests}
use Rattle.std.proofs.lemmas.Fmt.{decimal_is_IsNumeral}
use Rattle.std.proofs.lemmas.Str.Parse.{digit_at, digit_from_value}
use Rattle.pipes_tuple.specs.declared.value.Value.TheVariants.{Int}
use Rattle.pipes_tuple.specs.Reading.{is_numeral, is_i64, signed_number, number_reading}
use Rattle.pipes_tuple.specs.Reading.{int_reading}

all_pass : (ds : List ℕ) → AllDigits 10 ds → list_all is_ascii_digit ds ≡ true
all_pass [] h = refl
all_pass (c ∷ cs) h =
    let digit = digit_from_value c h.0 in
    let first : is_ascii_digit c ≡ true = grind (arith, nat_tests) in
    let rest = all_pass cs h.1 in
    rw (first, rest)

pub is_numeral-IsNumeral : (ds : List ℕ) → IsNumeral 10 ds → is_numeral ds ≡ true
is_numeral-IsNumeral ds h =
    let all = all_pass ds h.1 in
    let some = h.0 in
    rw all (grind (arith, nat_tests))

is_i64-fits : (z : ℤ) → SFits w64 z → is_i64 z ≡ true
is_i64-fits (pos n) h = let small : n < 2 ^ 63 = h.sfits in grind (arith, nat_tests)
is_i64-fits (negsuc n) h = let small : n < 2 ^ 63 = h.sfits in grind (arith, nat_tests)

number_reading-same : (minus : Bool) (ds : List ℕ) (z : ℤ) → IsNumeral 10 ds
    → signed_number minus ds ≡ z → SFits w64 z → number_reading minus ds ≡ Ok (Int z)
number_reading-same minus ds z numeral value fits =
    let digits = is_numeral-IsNumeral ds numeral in
    let inside = is_i64-fits z fits in
    rw (digits, value, inside)

-- an integer's text is read as the integer
pub int_reading-signed_decimal : (z : ℤ) → SFits w64 z → int_reading (signed_decimal z) ≡ Ok (Int z)
int_reading-signed_decimal (pos n) fits =
    let text = decimal_is_IsNumeral n (let small : n < 2 ^ 63 = fits.sfits in omega arith) in
    let digit = digit_at (decimal n) 0 text.0.1 text.0.0 in
    let plain : starts_with_minus (decimal n) ≡ false = grind (arith, nat_tests) in
    rw plain (number_reading-same false (decimal n) (pos n) text.0 (ap pos text.1) fits)
int_reading-signed_decimal (negsuc n) fits =
    let text = decimal_is_IsNumeral (suc n) (let small : n < 2 ^ 63 = fits.sfits in omega arith) in
    number_reading-same true (decimal (suc n)) (negsuc n) text.0
    (ap (λ (m : ℕ). neg_ℤ (pos m)) text.1) fits
