-- Maps as lists of pairs, lists of views, and words after a write.
use Rattle.std.proofs.Common.{◌≡◌, ◌≢◌, ℕ, zero, suc, ◌<◌, max, eqb, cond, true, false, ◌||◌}
use Rattle.std.proofs.Common.{List, [], ◌∷◌, length, get_or, set, Option, Some, None, refl, sym, ap}
use Rattle.std.proofs.Common.{◌∙◌, subst}
use Rattle.std.proofs.Common.{eq-eqb, ne_eqb, get_or-set_same, get_or-set_other}
use mathlib.Core.Logic.{dite}
use mathlib.Core.Option.{some, some-ne-none, some-injective}
use native.Mathlib.Decide.{ℕ_discrete}
use lib.ListN.{get_elem?}
use Rattle.pipes_split.specs.Views.{Map, greatest_at, first_value_at, is_among}

apart : (e k : ℕ) → k ≢ e → eqb e k ≡ false
apart e k n = ne_eqb e k (λ h. n (sym h))

pub greatest-here : (ps : Map) (e x : ℕ) → greatest_at ((e, x) ∷ ps) e ≡ max x (greatest_at ps e)
greatest-here ps e x = ap (λ b. cond b (max x (greatest_at ps e)) (greatest_at ps e))
    (eq-eqb e e refl)

pub greatest-other : (ps : Map) (e k x : ℕ) → k ≢ e → greatest_at ((e, x) ∷ ps) k ≡ greatest_at ps k
greatest-other ps e k x n =
    ap (λ b. cond b (max x (greatest_at ps k)) (greatest_at ps k)) (apart e k n)

pub first-here : (ps : Map) (e x : ℕ) → first_value_at ((e, x) ∷ ps) e ≡ Some x
first-here ps e x = ap (λ b. cond b (Some x) (first_value_at ps e)) (eq-eqb e e refl)

pub first-other : (ps : Map) (e k x : ℕ) → k ≢ e → first_value_at ((e, x) ∷ ps) k ≡ first_value_at
    ps k
first-other ps e k x n = ap (λ b. cond b (Some x) (first_value_at ps k)) (apart e k n)

pub key-here : (ks : List ℕ) (i : ℕ) → is_among (i ∷ ks) i ≡ true
key-here ks i = ap (λ b. b || is_among ks i) (eq-eqb i i refl)

pub key-other : (ks : List ℕ) (k i : ℕ) → i ≢ k → is_among (k ∷ ks) i ≡ is_among ks i
key-other ks k i n = ap (λ b. b || is_among ks i) (apart k i n)

pub key-kept : (ks : List ℕ) (k i : ℕ) → is_among ks i ≡ true → is_among (k ∷ ks) i ≡ true
key-kept ks k i h = elim (eqb k i) as (λ b. b || is_among ks i ≡ true) [ true ↦ refl | false ↦ h ]

-- ---- optional numbers
pub none-unless : (o : Option ℕ) → ((t : ℕ) → o ≡ Some t → ⊥) → o ≡ None
none-unless None never = refl
none-unless (Some t) never = absurd (never t refl)

pub none-is : {A : Type 0} (t : ℕ) → None ≡ Some t → A
none-is t h = absurd (cc)

abbrev or_zero : Option ℕ → ℕ
or_zero None = 0
or_zero (Some t) = t

pub same-number : (t u : ℕ) → Some t ≡ Some u → t ≡ u
same-number t u h = ap or_zero h

-- ---- lists of views
module _ {A : Type 0} where
  pub at-set : (l : List A) (i : ℕ) (a b : A) → get_elem? l i ≡ some a
      → get_elem? (set l i b) i ≡ some b
  at-set [] i a b e = absurd (some-ne-none a (sym e))
  at-set (x ∷ xs) zero a b e = refl
  at-set (x ∷ xs) (suc i) a b e = at-set xs i a b e

  pub same-there : (l : List A) (i j : ℕ) (a b : A) → get_elem? l i ≡ some a
      → get_elem? l j ≡ some b
      → j ≡ i → a ≡ b
  same-there l i j a b p q e = some-injective a b (sym p ∙ ap (get_elem? l) (sym e) ∙ q)

-- a word after a write at i
pub word-set : (P : ℕ → Type 0) (ws : List ℕ) (i n e : ℕ) → i < length ws → (e ≡ i → P n)
    → (e ≢ i → P (get_or ws e 0)) → P (get_or (set ws i n) e 0)
word-set P ws i n e inside here there =
    dite (ℕ_discrete e i)
    (λ h. subst (λ k. P (get_or (set ws i n) k 0)) (sym h)
    (subst P (sym (get_or-set_same ws i n 0 inside)) (here h)))
    (λ ne. subst P (sym (get_or-set_other ws i e n 0 ne)) (there ne))
