-- Counts of a row, as rows come and end.
use Rattle.std.proofs.Common.{◌≡◌, ℕ, zero, suc, ◌+◌, ◌-◌, ◌*◌, ◌<◌, Bool, true, false, cond}
use Rattle.std.proofs.Common.{eqb, nat_lt, List}
use Rattle.std.proofs.Common.{◌∷◌, refl, sym, ◌∙◌, subst, ap, arith}
use Rattle.std.specs.Bool.{OnTrue}
use Rattle.std.proofs.lemmas.Bool.Decides.{nat_tests}
use Rattle.pipes_tuple.specs.Equal.{tuple_eq}
use Rattle.pipes_tuple.specs.Bag.{count}
use Rattle.pipes_tuple.proofs.Bags.{count-cons}
use Rattle.pipes_timeline.specs.Rules.{Row, RowBags, NoneOfKey}
use Rattle.pipes_timeline.specs.Tables.{IsAnswer, with_arrival}
use Rattle.pipes_timeline.proofs.Calling.{on-true}
use Rattle.pipes_timeline.specs.LineMoves.{self-key, same-key, back-key}
use Rattle.pipes_minus.specs.declared.counts.Counts.{Counts}
use Rattle.pipes_minus.specs.Differences.{left_copies, minus_rule, MinusTells}

pub counts_none : (tally : Counts) (k : Row) (bags : RowBags) → tally.left ≡ 0 → tally.right ≡ 0
    → NoneOfKey (λ row. row) k bags → MinusTells k tally bags
counts_none tally k bags l r none = record {
  left = l ∙ sym (none 0 k (self-key k));
  right = r ∙ sym (none 1 k (self-key k));
  others = λ port h. none port k (self-key k);
}

pub counts_empty : (tally : Counts) (k : Row) (bags : RowBags) → tally.left ≡ 0 → tally.right ≡ 0
    → MinusTells k tally bags → NoneOfKey (λ row. row) k bags
counts_empty tally k bags l r t port row e =
    subst (λ (q : Row). count q (bags port) ≡ 0) (sym (same-key row k e)) (at port)
  where
    at : (p : ℕ) → count k (bags p) ≡ 0
    at zero = sym t.left ∙ l
    at (suc zero) = sym t.right ∙ r
    at (suc (suc p)) = t.others (suc (suc p)) (omega arith)

own-count : (k row : Row) (rows : List Row) → row ≡ k → count k (row ∷ rows) ≡ 1 + count k rows
own-count k row rows e =
    let a : ◌≡◌ {A = ℕ} (cond (tuple_eq row k) 1 0) 1 =
    ap (λ (b : Bool). cond {A = ℕ} b 1 0) (subst (λ (q : Row). tuple_eq row q ≡ true) e
    (self-key row)) in
    omega (arith, count-cons k row rows, a)

other-port : (port p : ℕ) (k row : Row) (bags : RowBags) → port < p
    → count k (with_arrival bags port row p) ≡ count k (bags p)
other-port port p k row bags h =
    ap (λ (b : Bool). count k (cond b (row ∷ bags p) (bags p))) (apart port p h)
  where
    apart : (m n : ℕ) → m < n → eqb m n ≡ false
    apart m n l = grind (arith, nat_tests)

-- a row more at the left, and at the right
pub added_left : (old new : Counts) (k row : Row) (bags : RowBags) → new.left ≡ old.left + 1
    → new.right ≡ old.right → row ≡ k → MinusTells k old bags
    → MinusTells k new (with_arrival bags 0 row)
added_left old new k row bags l r e t = record {
  left = (let a = own-count k row (bags 0) e in let b = t.left in omega (arith, a, b, l));
  right = r ∙ t.right;
  others = λ port h. other-port 0 port k row bags (omega (arith, h)) ∙ t.others port h;
}

pub added_right : (old new : Counts) (k row : Row) (bags : RowBags) → new.left ≡ old.left
    → new.right ≡ old.right + 1 → row ≡ k → MinusTells k old bags
    → MinusTells k new (with_arrival bags 1 row)
added_right old new k row bags l r e t = record {
  left = l ∙ t.left;
  right = (let a = own-count k row (bags 1) e in let b = t.right in omega (arith, a, b, r));
  others = λ port h. other-port 1 port k row bags (omega (arith, h)) ∙ t.others port h;
}

-- a row less
pub removed_left : (old new : Counts) (k row : Row) (bags : RowBags) → new.left ≡ old.left - 1
    → new.right ≡ old.right → row ≡ k → MinusTells k old (with_arrival bags 0 row)
    → MinusTells k new bags
removed_left old new k row bags l r e t = record {
  left = (let a = own-count k row (bags 0) e in let b = t.left in omega (arith, a, b, l));
  right = r ∙ t.right;
  others = λ port h. sym (other-port 0 port k row bags (omega (arith, h))) ∙ t.others port h;
}

pub removed_right : (old new : Counts) (k row : Row) (bags : RowBags) → new.left ≡ old.left
    → new.right ≡ old.right - 1 → row ≡ k → MinusTells k old (with_arrival bags 1 row)
    → MinusTells k new bags
removed_right old new k row bags l r e t = record {
  left = l ∙ t.left;
  right = (let a = own-count k row (bags 1) e in let b = t.right in omega (arith, a, b, r));
  others = λ port h. sym (other-port 1 port k row bags (omega (arith, h))) ∙ t.others port h;
}

-- what is left
pub counts_some : (tally : Counts) (k : Row) (bags : RowBags) → tally.right < tally.left
    → MinusTells k tally bags → (x : Row) × (0 < left_copies k bags x)
counts_some tally k bags h t = (
  k,
  (
      let a : left_copies k bags k ≡ count k (bags 0) - count k (bags 1) =
      ap (λ (b : Bool). cond b (count k (bags 0) - count k (bags 1)) 0) (self-key k) in
      let l = t.left in
      let r = t.right in
      omega (arith, a, l, r, h)),
)

pub counts_answer : (tally : Counts) (k tuple : Row) (many : ℕ) (bags : RowBags) → tuple ≡ k
    → many ≡ tally.left - tally.right → MinusTells k tally bags
    → IsAnswer minus_rule k bags tuple many
counts_answer tally k tuple many bags same is t = record {
  copies = λ x. pick x (tuple_eq x k) refl;
}
  where
    pick : (x : Row) (b : Bool) → tuple_eq x k ≡ b
        → cond b (count k (bags 0) - count k (bags 1)) 0 ≡ many * cond (tuple_eq tuple x) 1 0
    pick x true e =
        let a : ◌≡◌ {A = ℕ} (cond (tuple_eq tuple x) 1 0) 1 =
        ap (λ (b : Bool). cond {A = ℕ} b 1 0)
        (subst (λ (q : Row). tuple_eq q x ≡ true) (sym same) (back-key x k true e)) in
        let l = t.left in
        let r = t.right in
        let m : count k (bags 0) - count k (bags 1) ≡ many = omega (arith, l, r, is) in
        m ∙ sym (ap (λ (n : ℕ). many * n) a ∙ omega arith)
    pick x false e =
        let a : ◌≡◌ {A = ℕ} (cond (tuple_eq tuple x) 1 0) 0 =
        ap (λ (b : Bool). cond {A = ℕ} b 1 0)
        (subst (λ (q : Row). tuple_eq q x ≡ false) (sym same) (back-key x k false e)) in
        sym (ap (λ (n : ℕ). many * n) a ∙ omega arith)

-- ---- as the rule says it
below : (m n : ℕ) → nat_lt m n ≡ true → m < n
below m n e = grind (arith, nat_tests)

is-zero : (n : ℕ) → eqb n 0 ≡ true → n ≡ 0
is-zero n e = grind (arith, nat_tests)

pub add_left : (port : ℕ) (old new : Counts) (row : Row) → port ≡ 0 → new.left ≡ old.left + 1
    → new.right ≡ old.right → (k : Row) (bags : RowBags) → row ≡ k → MinusTells k old bags
    → MinusTells k new (with_arrival bags port row)
add_left port old new row is l r k bags e t =
    subst (λ (n : ℕ). MinusTells k new (with_arrival bags n row)) (sym is)
    (added_left old new k row bags l r e t)

pub add_right : (port : ℕ) (old new : Counts) (row : Row) → port ≡ 1 → new.left ≡ old.left
    → new.right ≡ old.right + 1 → (k : Row) (bags : RowBags) → row ≡ k → MinusTells k old bags
    → MinusTells k new (with_arrival bags port row)
add_right port old new row is l r k bags e t =
    subst (λ (n : ℕ). MinusTells k new (with_arrival bags n row)) (sym is)
    (added_right old new k row bags l r e t)

pub remove_left : (port : ℕ) (old new : Counts) (row : Row) → port ≡ 0 → new.left ≡ old.left - 1
    → new.right ≡ old.right → (k : Row) (bags : RowBags) → row ≡ k
    → MinusTells k old (with_arrival bags port row) → MinusTells k new bags
remove_left port old new row is l r k bags e t =
    removed_left old new k row bags l r e
    (subst (λ (n : ℕ). MinusTells k old (with_arrival bags n row)) is t)

pub remove_right : (port : ℕ) (old new : Counts) (row : Row) → port ≡ 1 → new.left ≡ old.left
    → new.right ≡ old.right - 1 → (k : Row) (bags : RowBags) → row ≡ k
    → MinusTells k old (with_arrival bags port row) → MinusTells k new bags
remove_right port old new row is l r k bags e t =
    removed_right old new k row bags l r e
    (subst (λ (n : ℕ). MinusTells k old (with_arrival bags n row)) is t)

pub has_some : (tally : Counts) → OnTrue (nat_lt tally.right tally.left) ((k : Row)
    (bags : RowBags) → MinusTells k tally bags → (x : Row) × (0 < left_copies k bags x))
has_some tally =
    on-true (nat_lt tally.right tally.left) ((k : Row) (bags : RowBags) → MinusTells k tally bags
    → (x : Row) × (0 < left_copies k bags x))
    (λ e k bags t. counts_some tally k bags (below tally.right tally.left e) t)

pub has_none : (tally : Counts) → tally.left ≡ 0 → OnTrue (eqb tally.right 0) ((k : Row)
    (bags : RowBags) → MinusTells k tally bags → NoneOfKey (λ row. row) k bags)
has_none tally l =
    on-true (eqb tally.right 0) ((k : Row) (bags : RowBags) → MinusTells k tally bags
    → NoneOfKey (λ row. row) k bags)
    (λ e k bags t. counts_empty tally k bags l (is-zero tally.right e) t)
