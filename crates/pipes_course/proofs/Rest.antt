-- `rest` turn by turn: the first turn is the one of least rank, of the lowest source among equals,
-- and the others are the rest then.
use Rattle.std.proofs.Common.{◌≡◌, ℕ, zero, suc, ◌≤◌, List, [], ◌∷◌, Bool, true, false, cond}
use Rattle.std.proofs.Common.{nat_le}
use Rattle.std.proofs.Common.{refl, ap, ◌∙◌, arith}
use Rattle.std.specs.Prelude.{⊤}
use Rattle.std.proofs.lemmas.Bool.Decides.{nat_tests}
use Rattle.pipes_course.specs.Turns.{Turn, rank, behind_lower, merged_turns, rest_turns, left_after}

-- the first turn, if there is one, ranks at or above this
abbrev pub FirstFrom : ℕ → List Turn → Type 0
FirstFrom low [] = ⊤
FirstFrom low (x ∷ xs) = low ≤ rank x

abbrev pub FirstsFrom : ℕ → List (List Turn) → Type 0
FirstsFrom low [] = ⊤
FirstsFrom low (l ∷ ls) = FirstFrom low l × FirstsFrom low ls

-- The source with this number has this turn first; those below it rank above it, and those above
-- it not below it.
abbrev pub GoesFirst : Turn → ℕ → List (List Turn) → Type 0
GoesFirst x number [] = ⊥
GoesFirst x zero ([] ∷ ls) = ⊥
GoesFirst x zero ((y ∷ ys) ∷ ls) = (y ≡ x) × FirstsFrom (rank x) ls
GoesFirst x (suc number) (l ∷ ls) = FirstFrom (suc (rank x)) l × GoesFirst x number ls

first-merged : (low : ℕ) (xs ys : List Turn) → FirstFrom low xs → FirstFrom low ys
    → FirstFrom low (merged_turns xs ys)
first-merged low [] ys first second = second
first-merged low (x ∷ xs) [] first second = first
first-merged low (x ∷ xs) (y ∷ ys) first second = by (nat_le (rank x) (rank y))
  where
    by : (b : Bool) → FirstFrom low
        (cond b (x ∷ merged_turns xs (y ∷ ys)) (y ∷ behind_lower x (merged_turns xs) ys))
    by true = first
    by false = second

first-rest : (low : ℕ) (ls : List (List Turn)) → FirstsFrom low ls → FirstFrom low (rest_turns ls)
first-rest low [] firsts = tt
first-rest low (l ∷ ls) firsts =
    first-merged low l (rest_turns ls) firsts.0 (first-rest low ls firsts.1)

-- the left one of two first turns goes where it does not rank above the other
left-goes : (x : Turn) (xs ys : List Turn) → FirstFrom (rank x) ys
    → merged_turns (x ∷ xs) ys ≡ x ∷ merged_turns xs ys
left-goes x xs [] from = refl
left-goes x xs (y ∷ ys) from =
    let low : nat_le (rank x) (rank y) ≡ true = grind (arith, nat_tests) in
    rw low refl

-- and the right one where it ranks below
right-goes : (l : List Turn) (y : Turn) (ys : List Turn) → FirstFrom (suc (rank y)) l
    → merged_turns l (y ∷ ys) ≡ y ∷ merged_turns l ys
right-goes [] y ys from = refl
right-goes (x ∷ xs) y ys from =
    let high : nat_le (rank x) (rank y) ≡ false = grind (arith, nat_tests) in
    rw high refl

pub rest-first : (x : Turn) (number : ℕ) (ls : List (List Turn)) → GoesFirst x number ls
    → rest_turns ls ≡ x ∷ rest_turns (left_after 1 number ls)
rest-first x number [] first = absurd first
rest-first x zero ([] ∷ ls) first = absurd first
rest-first x zero ((y ∷ ys) ∷ ls) first =
    ap (λ (z : Turn). merged_turns (z ∷ ys) (rest_turns ls)) first.0
    ∙ left-goes x ys (rest_turns ls) (first-rest (rank x) ls first.1)
rest-first x (suc number) (l ∷ ls) first =
    ap (λ (r : List Turn). merged_turns l r) (rest-first x number ls first.1)
    ∙ right-goes l x (rest_turns (left_after 1 number ls)) first.0

-- no source has a turn left
abbrev pub NoneLeft : List (List Turn) → Type 0
NoneLeft [] = ⊤
NoneLeft (l ∷ ls) = (l ≡ []) × NoneLeft ls

pub rest-none : (ls : List (List Turn)) → NoneLeft ls → rest_turns ls ≡ []
rest-none [] left = refl
rest-none (l ∷ ls) left =
    ap (λ (k : List Turn). merged_turns k (rest_turns ls)) left.0 ∙ rest-none ls left.1
