-- A list of bags of which those of some sources are replaced by bags that are equal.
use Rattle.std.proofs.Common.{◌≡◌, ℕ, zero, suc, ◌+◌, ◌<◌, Bool, true, false, cond, eqb, List, []}
use Rattle.std.proofs.Common.{◌∷◌, length, get_or, slice_get, unwrap_or, refl, sym, ◌∙◌, ap, subst}
use Rattle.std.proofs.Common.{arith, eq-eqb}
use Rattle.std.specs.List.{Contains}
use Rattle.std.proofs.lemmas.Bool.{eqb-true}
use Rattle.pipes_tuple.specs.declared.value.Value.{Value}
use Rattle.pipes_tuple.specs.Bag.{SameBag}
use Rattle.pipes_tuple.specs.Equal.{tuple_eq}
use Rattle.pipes_tuple.proofs.Equality.{tuple_eq-Decides}
use Rattle.pipes_tuple.proofs.Bags.{SameBag-refl, count-cons}
use Rattle.pipes_plan.proofs.SameAnswers.{SameBags}

abbrev Row : Type 0
Row = List Value

-- whether the number is in the list
abbrev pub is_in : List ℕ → ℕ → Bool
is_in [] s = false
is_in (x ∷ xs) s = cond (eqb x s) true (is_in xs s)

found : (b : Bool) (xs : List ℕ) (x s : ℕ) → eqb x s ≡ b → cond b true (is_in xs s) ≡ true
    → (is_in xs s ≡ true → Contains xs s) → Contains (x ∷ xs) s
found true xs x s e h f = (0, omega arith, eqb-true x s e)
found false xs x s e h f = let c = f h in (suc c.0, omega (arith, c.1), c.2)

pub in-contains : (xs : List ℕ) (s : ℕ) → is_in xs s ≡ true → Contains xs s
in-contains [] s h = cc
in-contains (x ∷ xs) s h = found (eqb x s) xs x s refl h (in-contains xs s)

held : (b : Bool) → cond b true true ≡ true
held true = refl
held false = refl

pub contains-in : (xs : List ℕ) (s j : ℕ) → j < length xs → get_or xs j 0 ≡ s → is_in xs s ≡ true
contains-in [] s j l e = absurd (omega (arith, l))
contains-in (x ∷ xs) s zero l e = rw (eq-eqb x s e) refl
contains-in (x ∷ xs) s (suc j) l e = rw (contains-in xs s j (omega (arith, l)) e) (held (eqb x s))

own : (tuple : Row) → ◌≡◌ {A = ℕ} (cond (tuple_eq tuple tuple) 1 0) 1
own tuple = rw ((tuple_eq-Decides tuple tuple).1 refl)

-- a bag that is equal to the empty one
pub bag-empty : (xs : List Row) → SameBag xs [] → xs ≡ []
bag-empty [] same = refl
bag-empty (x ∷ xs) same = absurd (omega (arith, same.counts x, count-cons x x xs, own x))

-- the bags, of which those of these sources are replaced
abbrev pub mixed : (ℕ → Bool) → (ℕ → List Row) → List (List Row) → List (List Row)
mixed p f [] = []
mixed p f (b ∷ bs) = cond (p 0) (f 0) b ∷ mixed (λ k. p (suc k)) (λ k. f (suc k)) bs

chosen : (b : Bool) (xs ys : List Row) → (b ≡ true → SameBag xs ys) → SameBag (cond b xs ys) ys
chosen true xs ys h = h refl
chosen false xs ys h = SameBag-refl ys

pub mixed-same : (p : ℕ → Bool) (f : ℕ → List Row) (bs : List (List Row))
    → ((k : ℕ) → p k ≡ true → SameBag (f k) (unwrap_or (slice_get bs k) []))
    → SameBags (mixed p f bs) bs
mixed-same p f [] h = tt
mixed-same p f (b ∷ bs) h = (
  chosen (p 0) (f 0) b (h 0),
  mixed-same (λ k. p (suc k)) (λ k. f (suc k)) bs (λ k. h (suc k)),
)

pub mixed-at : (p : ℕ → Bool) (f : ℕ → List Row) (bs : List (List Row)) (k : ℕ) → p k ≡ true
    → SameBag (f k) (unwrap_or (slice_get bs k) [])
    → f k ≡ unwrap_or (slice_get (mixed p f bs) k) []
mixed-at p f [] k h same = bag-empty (f k) same
mixed-at p f (b ∷ bs) zero h same = rw h refl
mixed-at p f (b ∷ bs) (suc k) h same =
    mixed-at (λ k. p (suc k)) (λ k. f (suc k)) bs k h same
