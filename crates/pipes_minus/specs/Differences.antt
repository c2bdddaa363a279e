-- How often a row is in a difference.
use Rattle.std.proofs.Common.{◌≡◌, ℕ, ◌-◌, ◌≤◌, ◌<◌, Bool, true, false, cond, List}
use Rattle.std.proofs.Common.{[], ◌∷◌, refl, sym, ◌∙◌, subst, ap, arith}
use Rattle.pipes_tuple.specs.Equal.{tuple_eq}
use Rattle.pipes_tuple.specs.Bag.{count}
use Rattle.pipes_tuple.proofs.Bags.{count-cons}
use Rattle.pipes_relation.specs.Relations.{without, minus}
use Rattle.pipes_timeline.specs.Rules.{Row, RowBags, SameOfKey, row_of_key, KeyRule}
use Rattle.pipes_stream.specs.Weights.{weigh}
use Rattle.pipes_stream.proofs.Weights.{weigh-count}
use Rattle.pipes_timeline.specs.LineMoves.{self-key, same-key}
use Rattle.pipes_minus.specs.declared.counts.Counts.{Counts}

-- ---- one row less
one-row_less : (b : Bool) (t x row : Row) (rows : List Row) → tuple_eq row t ≡ b
    → count x (without t rows) ≡ count x rows - cond (tuple_eq t x) 1 0
    → count x (cond b rows (row ∷ without t rows))
    ≡ count x (row ∷ rows) - cond (tuple_eq t x) 1 0
one-row_less true t x row rows e h =
    let a : ◌≡◌ {A = ℕ} (cond (tuple_eq row x) 1 0) (cond (tuple_eq t x) 1 0) =
    ap (λ (q : Row). cond {A = ℕ} (tuple_eq q x) 1 0) (same-key row t e) in
    omega (arith, count-cons x row rows, a)
one-row_less false t x row rows e h =
    apart (tuple_eq row x) (tuple_eq t x) refl refl
  where
    apart : (c d : Bool) → tuple_eq row x ≡ c → tuple_eq t x ≡ d
        → count x (row ∷ without t rows) ≡ count x (row ∷ rows) - cond (tuple_eq t x) 1 0
    apart true true f g = absurd (
        let a : row ≡ t = same-key row x f ∙ sym (same-key t x g) in
        let b : tuple_eq row t ≡ true = subst (λ (q : Row). tuple_eq row q ≡ true) a
        (self-key row) in
        let i : true ≡ false = sym b ∙ e in cc)
    apart true false f g =
        let z : ◌≡◌ {A = ℕ} (cond (tuple_eq t x) 1 0) 0 = ap (λ (b : Bool). cond {A = ℕ} b 1 0)
        g in
        omega (arith, count-cons x row rows, count-cons x row (without t rows), h, z)
    apart false d f g =
        let z : ◌≡◌ {A = ℕ} (cond (tuple_eq row x) 1 0) 0 =
        ap (λ (b : Bool). cond {A = ℕ} b 1 0) f in
        omega (arith, count-cons x row rows, count-cons x row (without t rows), h, z)

count-without : (t x : Row) (rows : List Row)
    → count x (without t rows) ≡ count x rows - cond (tuple_eq t x) 1 0
count-without t x [] = omega (arith, none)
  where
    none : count x [] ≡ 0
    none = refl
count-without t x (row ∷ rows) = one-row_less (tuple_eq row t) t x row rows refl
    (count-without t x rows)

-- as often as in the first list, less as often as in the second
pub count-minus : (x : Row) (rows others : List Row)
    → count x (minus rows others) ≡ count x rows - count x others
count-minus x rows [] = omega (arith, none)
  where
    none : count x [] ≡ 0
    none = refl
count-minus x rows (t ∷ others) =
    omega (
      arith,
      count-minus x (without t rows) others,
      count-without t x rows,
      count-cons x t others,
    )

-- ---- the rule
-- how often the row is left
abbrev pub left_copies : Row → RowBags → Row → ℕ
left_copies k bags x = cond (tuple_eq x k) (count k (bags 0) - count k (bags 1)) 0

pub own-left : (k x : Row) (bags : RowBags) → tuple_eq x k ≡ false → left_copies k bags x ≡ 0
own-left k x bags n = ap (λ (b : Bool). cond b (count k (bags 0) - count k (bags 1)) 0) n

pub local-left : (k : Row) (bags others : RowBags) → SameOfKey (λ row. row) k bags others
    → (x : Row)
    → left_copies k bags x ≡ left_copies k others x
local-left k bags others same x =
    let a = same 0 k (self-key k) in
    let b = same 1 k (self-key k) in
    let c : count k (bags 0) - count k (bags 1) ≡ count k (others 0) - count k (others 1) =
    omega (arith, a, b) in
    ap (λ (n : ℕ). cond (tuple_eq x k) n 0) c

pub from-left : (k x : Row) (bags : RowBags) → 0 < left_copies k bags x
    → 0 < weigh (row_of_key (λ row. row) k) (bags 0)
from-left k x bags h =
    let a = weigh-count (λ (row : Row). tuple_eq row k) (bags 0) in
    some (tuple_eq x k) h a
  where
    some : (b : Bool) → 0 < cond b (count k (bags 0) - count k (bags 1)) 0
        → count k (bags 0) ≡ weigh (row_of_key (λ row. row) k) (bags 0)
        → 0 < weigh (row_of_key (λ row. row) k) (bags 0)
    some true g a = omega (arith, g, a)
    some false g a = absurd (omega (arith, g))

-- the key of a row is the row
abbrev pub minus_rule : KeyRule
minus_rule = record {
  key = λ row. row;
  key_of_answer = λ x. x;
  gives = left_copies;
  own = own-left;
  local = local-left;
  from = from-left;
}

-- how often the row is at each port
pub record MinusTells (k : Row) (tally : Counts) (bags : RowBags) : Type 0 where
  pub left : tally.left ≡ count k (bags 0)
  pub right : tally.right ≡ count k (bags 1)
  pub others : (port : ℕ) → 2 ≤ port → count k (bags port) ≡ 0

pub minus_stays : (k : Row) (tally : Counts) (bags others : RowBags)
    → SameOfKey (λ row. row) k bags others → MinusTells k tally bags → MinusTells k tally others
minus_stays k tally bags others same t = record {
  left = t.left ∙ same 0 k (self-key k);
  right = t.right ∙ same 1 k (self-key k);
  others = λ port h. sym (same port k (self-key k)) ∙ t.others port h;
}
