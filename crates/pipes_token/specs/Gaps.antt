-- What may stand between tokens: separators and comments.
use Rattle.std.specs.Prelude.{◌≡◌, ◌≢◌, ℕ, Bool, true, false, not, ◌||◌, ◌==◌, List, [], ◌∷◌, ◌++◌}
use Rattle.std.specs.List.{list_all}

-- space, tab, CR or LF
abbrev pub is_separator : ℕ → Bool
is_separator b = b == 32 || b == 9 || b == 13 || b == 10

-- any byte but LF
abbrev pub is_within_line : ℕ → Bool
is_within_line b = not (b == 10)

-- an LF stands here, or the text ends
abbrev pub EndsLine : List ℕ → Type 0
EndsLine [] = Unit {0}
EndsLine (b ∷ bs) = b ≡ 10

-- The bytes are separators and comments, where `rest` follows them. A comment begins with `#` and
-- ends before the next LF, or with the text.
pub data IsGap (rest : List ℕ) : List ℕ → Type 0 where
  none : IsGap rest []
  separator : (b : ℕ) (gap : List ℕ) → is_separator b ≡ true → IsGap rest gap → IsGap rest (b ∷ gap)
  comment : (line gap whole : List ℕ) → whole ≡ 35 ∷ (line ++ gap)
      → list_all is_within_line line ≡ true → EndsLine (gap ++ rest) → IsGap rest gap
      → IsGap rest whole

-- no separator and no comment begins here
abbrev pub BeginsNoGap : List ℕ → Type 0
BeginsNoGap [] = Unit {0}
BeginsNoGap (b ∷ bs) = (is_separator b ≡ false) × (b ≢ 35)

-- after the longest gap, which may have no bytes
pub record IsPastGap (bs here : List ℕ) : Type 0 where
  pub gap : List ℕ
  pub parts : bs ≡ gap ++ here
  pub is_gap : IsGap here gap
  pub longest : BeginsNoGap here
