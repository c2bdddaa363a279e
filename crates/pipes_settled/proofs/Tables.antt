-- Tables in order, as functions of their keys.
use Rattle.std.proofs.Common.{◌≡◌, ◌≢◌, ℕ, ◌≤◌, Bool, true, false, Option, Some, None, List, []}
use Rattle.std.proofs.Common.{refl, sym, ◌∙◌, ap, subst, arith}
use Rattle.std.specs.Prelude.{IsSome}
use Rattle.std.specs.Map.{lookup}
use Rattle.std.specs.HashMap as hash
use Rattle.std.specs.HashMap.{HashMap}
use Rattle.pipes_tuple.specs.Equal.{tuple_eq}
use Rattle.pipes_tuple.proofs.Equality.{tuple_eq-Decides}
use Rattle.std.specs.BTreeMap.{BTreeMap, get, is_at, Updates, IsLowerBound}
use Rattle.std.specs.declared.cmp.Ordering.{Ordering}
use Rattle.std.specs.declared.cmp.Ordering.TheVariants.{Less, Equal, Greater}
use Rattle.std.specs.Ordering.{is_eq, is_gt, nat_cmp, ordering_then}
use Rattle.std.proofs.lemmas.Bool.Decides.{nat_tests}
use Rattle.std.proofs.lemmas.Map.Lookups.{CmpEqualImpliesEq, exact_pairs, exact_unsigned}
use Rattle.pipes_tuple.specs.Order.{tuple_cmp}
use Rattle.pipes_tuple.proofs.Orders.{tuple_cmp-Equal}
use Rattle.pipes_output.specs.NormalText.{period_cmp}
use Rattle.pipes_settled.specs.Standing.{at_cmp, piece_cmp}
use Rattle.pipes_settled.specs.Moves.{is_past, IsPut}
use Rattle.pipes_settled.proofs.Moving.{Tuple}

pub exact-tuple : CmpEqualImpliesEq tuple_cmp
exact-tuple x y e = tuple_cmp-Equal x y e

pub exact-at : CmpEqualImpliesEq at_cmp
exact-at = exact_pairs nat_cmp tuple_cmp exact_unsigned exact-tuple

pub exact-piece : CmpEqualImpliesEq piece_cmp
exact-piece x y e =
    let n = exact_pairs nat_cmp nat_cmp exact_unsigned exact_unsigned (x.0, x.1) (y.0, y.1)
    (front (ordering_then (nat_cmp x.0 y.0) (nat_cmp x.1 y.1)) (tuple_cmp x.2 y.2) e) in
    let t = exact-tuple x.2 y.2 (back (ordering_then (nat_cmp x.0 y.0) (nat_cmp x.1 y.1))
    (tuple_cmp x.2 y.2) e) in
    (λ i. ((n i).0, (n i).1, t i))
  where
    front : (a b : Ordering) → ordering_then a b ≡ Equal → a ≡ Equal
    front Less b e = e
    front Equal b e = refl
    front Greater b e = e

    back : (a b : Ordering) → ordering_then a b ≡ Equal → b ≡ Equal
    back Less b e = absurd (cc)
    back Equal b e = e
    back Greater b e = absurd (cc)

apart-at : (o : Ordering) → (o ≡ Equal → ⊥) → is_eq o ≡ false
apart-at Less n = refl
apart-at Equal n = absurd (n refl)
apart-at Greater n = refl

module _ {K X : Type 0} (cmp : K → K → Ordering) (exact : CmpEqualImpliesEq cmp)
    (m n : BTreeMap K X) (k : K) where
  -- what a call that changes one key says
  pub put-from : (w : Option X) → Updates cmp m n k w → IsPut (get cmp m) (get cmp n) k w
  put-from w u = record {
    here = u.1;
    others = λ q apart. u.2 q (apart-at (cmp k q)
        (λ e. apart (sym (exact k q e))));
  }

  -- an empty table has nothing
  pub get-empty : m.entries ≡ [] → get cmp m k ≡ None
  get-empty e = ap (λ (es : List (K × X)). lookup (is_at (cmp k)) es) e

  -- what is left when the first key is taken out is behind it
  pub less-from : Updates cmp m n k None → IsLowerBound cmp m k → (q : K) (x : X)
      → get cmp n q ≡ Some x → cmp k q ≡ Less
  less-from u least q x h = by (cmp k q) (λ e. exact k q e) (u.2 q) (least q)
    where
      by : (o : Ordering) → (o ≡ Equal → k ≡ q) → (is_eq o ≡ false → get cmp n q ≡ get cmp m q)
          → (IsSome (get cmp m q) → is_gt o ≡ false) → o ≡ Less
      by Less e same low = refl
      by Equal e same low = absurd (none-some (sym u.1 ∙ subst (λ p. get cmp n p ≡ Some x)
          (sym (e refl)) h))
        where
          none-some : ◌≡◌ {A = Option X} None (Some x) → ⊥
          none-some e = absurd (cc)
      by Greater e same low = absurd (cc (low (subst IsSome (sym h ∙ same refl) refl)))

-- a least key by instant
pub least-at : (x y : ℕ × Tuple) → is_gt (at_cmp x y) ≡ false → x.0 ≤ y.0
least-at x y h = by (nat_cmp x.0 y.0) (tuple_cmp x.1 y.1) refl h
  where
    low : (m n : ℕ) → Less ≡ nat_cmp m n → m ≤ n
    low m n e = grind (arith, nat_tests)

    same : (m n : ℕ) → Equal ≡ nat_cmp m n → m ≤ n
    same m n e = grind (arith, nat_tests)

    by : (a b : Ordering) → a ≡ nat_cmp x.0 y.0 → is_gt (ordering_then a b) ≡ false → x.0 ≤ y.0
    by Less b e h = low x.0 y.0 e
    by Equal b e h = same x.0 y.0 e
    by Greater b e h = absurd (cc)

-- the orders of keys and of periods are one
pub piece-period : (s e c b g d : ℕ) (v w : Tuple) → piece_cmp (s, e, v) (b, g, w) ≡ Less
    → period_cmp (record { start = s; end = e; copies = c; tuple = v })
    (record { start = b; end = g; copies = d; tuple = w }) ≡ Less
piece-period s e c b g d v w h = sym (assoc (nat_cmp s b) (nat_cmp e g) (tuple_cmp v w)) ∙ h
  where
    assoc : (x y z : Ordering) → ordering_then (ordering_then x y) z ≡ ordering_then x
        (ordering_then y z)
    assoc Less y z = refl
    assoc Equal y z = refl
    assoc Greater y z = refl

-- a least closed piece starts no later than others
pub least-piece : (x y : ℕ × ℕ × Tuple) → is_gt (piece_cmp x y) ≡ false → x.0 ≤ y.0
least-piece x y h = by (nat_cmp x.0 y.0) (nat_cmp x.1 y.1) (tuple_cmp x.2 y.2) refl h
  where
    low : (m n : ℕ) → Less ≡ nat_cmp m n → m ≤ n
    low m n e = grind (arith, nat_tests)

    same : (m n : ℕ) → Equal ≡ nat_cmp m n → m ≤ n
    same m n e = grind (arith, nat_tests)

    by : (a b c : Ordering) → a ≡ nat_cmp x.0 y.0 → is_gt (ordering_then (ordering_then a b) c)
        ≡ false → x.0 ≤ y.0
    by Less b c e h = low x.0 y.0 e
    by Equal b c e h = same x.0 y.0 e
    by Greater b c e h = absurd (cc)

-- a later start is past the limit too
pub past-more : (limit : Option ℕ) (a b : ℕ) → a ≤ b → is_past limit a ≡ true
    → is_past limit b ≡ true
past-more None a b h k = k
past-more (Some l) a b h k = grind (arith, nat_tests)

-- the same of a hash table by tuple
pub put-hashed : {X S : Type 0} (m n : HashMap Tuple X S) (k : Tuple) (w : Option X)
    → hash.Updates tuple_eq m n k w → IsPut (hash.get tuple_eq m) (hash.get tuple_eq n) k w
put-hashed m n k w u = record {
  here = u.1;
  others = λ q apart. u.2 q (by q apart (tuple_eq k q)
      (tuple_eq-Decides k q).0);
}
  where
    by : (q : Tuple) → q ≢ k → (b : Bool) → (b ≡ true → k ≡ q) → b ≡ false
    by q apart true is = absurd (apart (sym (is refl)))
    by q apart false is = refl
