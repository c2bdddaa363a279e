-- What digits write.
use Rattle.std.proofs.Common.{◌≡◌, ℕ, ◌<◌, ◌^◌, List, [], ◌∷◌, length, Bool, true, false, None}
use Rattle.std.proofs.Common.{Result, Ok, Err, nat_lt, nat_le, refl, ◌∙◌, ap, ◌&&◌, arith}
use Rattle.std.specs.List.{list_all}
use Rattle.std.specs.Char.{is_ascii_digit}
use Rattle.std.specs.Str.{all_ascii_digits}
use Rattle.std.specs.Str.Parse.{digits_value, ParsesUnsigned}
use Rattle.std.proofs.lemmas.Str.Parse.{IsNumeralModel, numerals_by_value, tells_all_ascii_digits}
use Rattle.std.proofs.lemmas.Str.Parse.{parse_digits}
use Rattle.std.specs.Result.{result_ok}
use Rattle.std.proofs.lemmas.Bool.{ltb-true, leb-true}
use Rattle.pipes_args.specs.Words.{number_in}

digits_test : (ds : List ℕ) → all_ascii_digits ds ≡ list_all is_ascii_digit ds
digits_test [] = refl
digits_test (d ∷ ds) = ap (λ (t : Bool). is_ascii_digit d && t) (digits_test ds)

numerals : IsNumeralModel (λ ds. all_ascii_digits ds ≡ true) (digits_value 10)
numerals = numerals_by_value (λ ds. all_ascii_digits ds ≡ true) tells_all_ascii_digits

-- digits whose number is not read write no number of 64 bits
pub number-none : {E : Type 0} (least most : ℕ) (bs : List ℕ) (r : Result ℕ E) → most < 2 ^ 64
    → list_all is_ascii_digit bs ≡ true
    → ParsesUnsigned 64 10 bs r → result_ok r ≡ None → None ≡ number_in least most bs
number-none least most bs (Ok x) fits digits parses none = cc
number-none {E} least most bs (Err e) fits digits parses none = go (nat_lt 0 (length bs))
    (nat_le least (digits_value 10 bs)) (nat_le (digits_value 10 bs) most) refl refl refl
  where
    refused : ¬ ((0 < length bs) × (digits_value 10 bs < 2 ^ 64))
    refused = parse_digits numerals 64 bs (Err e) parses (digits_test bs ∙ digits)

    go : (p q s : Bool) → nat_lt 0 (length bs) ≡ p → nat_le least (digits_value 10 bs) ≡ q
        → nat_le (digits_value 10 bs) most ≡ s → None ≡ number_in least most bs
    go false q s some low high = rw some refl
    go true false s some low high = rw (some, digits, low) refl
    go true true false some low high = rw (some, digits, low, high) refl
    go true true true some low high = let within = ltb-true 0 (length bs) some in let small =
        leb-true (digits_value 10 bs) most high in absurd (refused (within, omega arith))
