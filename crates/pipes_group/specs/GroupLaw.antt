-- What a group gives is what the algebra's grouping has, and hangs on the rows of its key alone.
use Rattle.std.proofs.Common.{◌≡◌, ℕ, zero, suc, ◌+◌, ◌<◌, Bool, true, false, not, cond, eqb}
use Rattle.std.proofs.Common.{nat_lt, min, List, [], ◌∷◌, ◌++◌, map, length, take, refl, sym, ◌∙◌}
use Rattle.std.proofs.Common.{subst, ap, arith}
use Rattle.std.specs.List.{All, filter}
use Rattle.std.proofs.lemmas.Bool.Decides.{nat_tests}
use Rattle.std.proofs.lemmas.List.Elements.{All-nil, All-cons, All-head, All-tail, All-filter}
use Rattle.pipes_tuple.proofs.Perm.{length-Perm}
use Rattle.pipes_tuple.specs.declared.value.Value.{Value}
use Rattle.pipes_tuple.specs.Columns.{at_columns}
use Rattle.pipes_tuple.specs.Equal.{tuple_eq}
use Rattle.pipes_tuple.specs.Bag.{count}
use Rattle.pipes_tuple.proofs.Bags.{count-cons, Perm-SameBag}
use Rattle.pipes_tuple.proofs.Perm.{Perm, none, keep, swap, then}
use Rattle.pipes_relation.specs.declared.lists.Agg.{Agg}
use Rattle.pipes_expr.specs.ExprValue.{Row}
use Rattle.pipes_relation.specs.Aggregate.{aggregate}
use Rattle.pipes_relation.specs.Relations.{distinct, with_key, group_row, grouped}
use Rattle.pipes_plan.proofs.SameAnswers.{aggregate-Perm}
use Rattle.pipes_stream.specs.Weights.{weigh}
use Rattle.pipes_stream.proofs.Weights.{weigh-filter, weigh-length, weigh-count, weigh-map}
use Rattle.pipes_timeline.specs.Rules.{RowBags, SameOfKey, row_of_key, KeyRule}
use Rattle.pipes_timeline.specs.LineMoves.{self-key, same-key, one-if}
use Rattle.pipes_timeline.specs.LineMoves.{zero-if}
use Rattle.pipes_group.specs.Counts.{count-distinct}
use Rattle.pipes_group.specs.Groups.{group_gives}

-- ---- rows that pass a test
kept-count : (p : Row → Bool) (x row : Row) (rows : List Row) (b c : Bool) → p row ≡ b
    → tuple_eq row x ≡ c → count x (filter p rows) ≡ cond (p x) (count x rows) 0
    → count x (cond b (row ∷ filter p rows) (filter p rows))
    ≡ cond (p x) (count x (row ∷ rows)) 0
kept-count p x row rows true true e f h =
    let here : p x ≡ true = sym (ap p (same-key row x f)) ∙ e in
    let one = one-if (tuple_eq row x) f in
    let a : cond (p x) (count x rows) 0 ≡ count x rows =
    ap (λ (b : Bool). cond b (count x rows) 0) here in
    let d : cond (p x) (count x (row ∷ rows)) 0 ≡ count x (row ∷ rows) =
    ap (λ (b : Bool). cond b (count x (row ∷ rows)) 0) here in
    omega (arith, count-cons x row (filter p rows), count-cons x row rows, h, a, d, one)
kept-count p x row rows true false e f h = other (p x) h
  where
    other : (b : Bool) → count x (filter p rows) ≡ cond b (count x rows) 0
        → count x (row ∷ filter p rows) ≡ cond b (count x (row ∷ rows)) 0
    other true g = let z = zero-if (tuple_eq row x) f in
        omega (arith, count-cons x row (filter p rows), count-cons x row rows, g, z)
    other false g = let z = zero-if (tuple_eq row x) f in
        omega (arith, count-cons x row (filter p rows), g, z)
kept-count p x row rows false true e f h =
    let here : p x ≡ false = sym (ap p (same-key row x f)) ∙ e in
    h ∙ ap (λ (b : Bool). cond b (count x rows) 0) here
    ∙ sym (ap (λ (b : Bool). cond b (count x (row ∷ rows)) 0) here)
kept-count p x row rows false false e f h = other (p x) h
  where
    other : (b : Bool) → count x (filter p rows) ≡ cond b (count x rows) 0
        → count x (filter p rows) ≡ cond b (count x (row ∷ rows)) 0
    other true g = let z = zero-if (tuple_eq row x) f in omega (arith, count-cons x row rows, g, z)
    other false g = g

pub count-filter : (p : Row → Bool) (x : Row) (rows : List Row)
    → count x (filter p rows) ≡ cond (p x) (count x rows) 0
count-filter p x [] = none (p x)
  where
    none : (b : Bool) → 0 ≡ cond {A = ℕ} b 0 0
    none true = refl
    none false = refl
count-filter p x (row ∷ rows) =
    kept-count p x row rows (p row) (tuple_eq row x) refl refl (count-filter p x rows)

-- the rows of a key are the same, up to order
pub same-group : (columns : List ℕ) (k : Row) (bags others : RowBags) (port : ℕ)
    → SameOfKey (at_columns columns) k bags others
    → Perm (with_key columns (bags port) k) (with_key columns (others port) k)
same-group columns k bags others port same =
    let test : Row → Bool = λ row. tuple_eq (at_columns columns row) k in
    Perm-SameBag (with_key columns (bags port) k) (with_key columns (others port) k) (record {
      counts = λ x.
          (let a = count-filter test x (bags port) in
          let b = count-filter test x (others port) in
          a ∙ pick x (tuple_eq (at_columns columns x) k) refl ∙ sym b);
    })
  where
    pick : (x : Row) (b : Bool) → tuple_eq (at_columns columns x) k ≡ b
        → cond (tuple_eq (at_columns columns x) k) (count x (bags port)) 0
        ≡ cond (tuple_eq (at_columns columns x) k) (count x (others port)) 0
    pick x true e = ap (λ (n : ℕ). cond (tuple_eq (at_columns columns x) k) n 0) (same port x e)
    pick x false e =
        ap (λ (b : Bool). cond b (count x (bags port)) 0) e
        ∙ sym (ap (λ (b : Bool). cond b (count x (others port)) 0) e)

map-alike : (f g : Agg → Value) → ((a : Agg) → f a ≡ g a) → (aggs : List Agg)
    → map f aggs ≡ map g aggs
map-alike f g h [] = refl
map-alike f g h (a ∷ aggs) =
    ap (λ (v : Value). v ∷ map f aggs) (h a) ∙ ap (λ (vs : Row). g a ∷ vs) (map-alike f g h aggs)

same-row : (columns : List ℕ) (aggs : List Agg) (k : Row) (rows others : List Row)
    → Perm (with_key columns rows k) (with_key columns others k)
    → group_row columns aggs rows k ≡ group_row columns aggs others k
same-row columns aggs k rows others p =
    ap (λ (vs : Row). k ++ vs)
    (map-alike (aggregate (with_key columns rows k)) (aggregate (with_key columns others k))
    (λ a. aggregate-Perm a p) aggs)

-- ---- the rule
take-key : (k vs : Row) → take (length k) (k ++ vs) ≡ k
take-key [] vs = refl
take-key (v ∷ k) vs = ap (λ (w : Row). v ∷ w) (take-key k vs)

pub own-group : (columns : List ℕ) (aggs : List Agg) (k x : Row) (bags : RowBags)
    → tuple_eq (take (length columns) x) k ≡ false → group_gives columns aggs k bags x ≡ 0
own-group columns aggs k x bags n =
    pick (nat_lt 0 (length (with_key columns (bags 0) k))) (eqb (length k) (length columns))
    (tuple_eq (group_row columns aggs (bags 0) k) x) (same-length (length k) (length columns)) refl
  where
    same-length : (a b : ℕ) → eqb a b ≡ true → a ≡ b
    same-length a b e = grind (arith, nat_tests)

    pick : (a b c : Bool) → (b ≡ true → length k ≡ length columns)
        → tuple_eq (group_row columns aggs (bags 0) k) x ≡ c
        → cond {A = ℕ} a (cond {A = ℕ} b (cond {A = ℕ} c 1 0) 0) 0 ≡ 0
    pick true true true f e = absurd (
        let vs : Row = map (aggregate (with_key columns (bags 0) k)) aggs in
        let is : k ++ vs ≡ x = same-key (group_row columns aggs (bags 0) k) x e in
        let key : take (length columns) x ≡ k =
        ap (λ (y : Row). take (length columns) y) (sym is)
        ∙ ap (λ (i : ℕ). take i (k ++ vs)) (sym (f refl)) ∙ take-key k vs in
        let yes : tuple_eq (take (length columns) x) k ≡ true =
        subst (λ (y : Row). tuple_eq y k ≡ true) (sym key) (self-key k) in
        let bad : true ≡ false = sym yes ∙ n in cc)
    pick true true false f e = refl
    pick true false c f e = refl
    pick false b c f e = refl

pub local-group : (columns : List ℕ) (aggs : List Agg) (k : Row) (bags others : RowBags)
    → SameOfKey (at_columns columns) k bags others → (x : Row)
    → group_gives columns aggs k bags x ≡ group_gives columns aggs k others x
local-group columns aggs k bags others same x =
    let p = same-group columns k bags others 0 same in
    let many = length-Perm p in
    let row = same-row columns aggs k (bags 0) (others 0) p in
    ap (λ (n : ℕ). cond (nat_lt 0 n) (cond (eqb (length k) (length columns))
    (cond (tuple_eq (group_row columns aggs (bags 0) k) x) 1 0) 0) 0) many
    ∙ ap (λ (r : Row). cond (nat_lt 0 (length (with_key columns (others 0) k)))
    (cond (eqb (length k) (length columns)) (cond (tuple_eq r x) 1 0) 0) 0) row

group-length : (columns : List ℕ) (k : Row) (rows : List Row)
    → length (with_key columns rows k) ≡ weigh (row_of_key (at_columns columns) k) rows
group-length columns k rows =
    sym (weigh-length (with_key columns rows k))
    ∙ weigh-filter (λ (row : Row). 1) (λ (row : Row). tuple_eq (at_columns columns row) k) rows

pub from-group : (columns : List ℕ) (aggs : List Agg) (k x : Row) (bags : RowBags)
    → 0 < group_gives columns aggs k bags x → 0 < weigh (row_of_key (at_columns columns) k) (bags 0)
from-group columns aggs k x bags h =
    let a = group-length columns k (bags 0) in
    let b = some (length (with_key columns (bags 0) k))
    (cond (eqb (length k) (length columns))
    (cond (tuple_eq (group_row columns aggs (bags 0) k) x) 1 0) 0) h in
    omega (arith, a, b)
  where
    some : (n m : ℕ) → 0 < cond (nat_lt 0 n) m 0 → 0 < n
    some n m s = grind (arith, nat_tests)

-- The key of a row is its values in the columns, and that of an answer its first values.
abbrev pub group_rule : List ℕ → List Agg → KeyRule
group_rule columns aggs = record {
  key = at_columns columns;
  key_of_answer = λ x. take (length columns) x;
  gives = group_gives columns aggs;
  own = own-group columns aggs;
  local = local-group columns aggs;
  from = from-group columns aggs;
}

-- ---- all groups
-- each row has a value in each column
abbrev pub HasKeys : List ℕ → List Row → Type 0
HasKeys columns rows = All (λ row. length (at_columns columns row) ≡ length columns) rows

keys-distinct : (n : ℕ) (ks : List Row) → All (λ k. length k ≡ n) ks
    → All (λ k. length k ≡ n) (distinct ks)
keys-distinct n [] all = All-nil (λ (k : Row). length k ≡ n)
keys-distinct n (k ∷ ks) all =
    All-cons (λ (k : Row). length k ≡ n) k (filter (λ y. not (tuple_eq y k)) (distinct ks))
    (All-head (λ (k : Row). length k ≡ n) k ks all)
    (All-filter (λ (y : Row). not (tuple_eq y k)) (λ (k : Row). length k ≡ n) (distinct ks)
    (keys-distinct n ks (All-tail (λ (k : Row). length k ≡ n) k ks all)))

-- one key's row among the rows of keys
key-step : (n : ℕ) (g : Row → Row) (x k : Row) (ks : List Row)
    → ((j : Row) → length j ≡ n → take n (g j) ≡ j) → length k ≡ n
    → count x (map g ks) ≡ cond (tuple_eq (g (take n x)) x) (count (take n x) ks) 0
    → count x (g k ∷ map g ks) ≡ cond (tuple_eq (g (take n x)) x) (count (take n x) (k ∷ ks)) 0
key-step n g x k ks front len h =
    pick (tuple_eq (g (take n x)) x) (tuple_eq (g k) x) (tuple_eq k (take n x)) refl refl refl h
  where
    pick : (a b c : Bool) → tuple_eq (g (take n x)) x ≡ a → tuple_eq (g k) x ≡ b
        → tuple_eq k (take n x) ≡ c
        → count x (map g ks) ≡ cond a (count (take n x) ks) 0
        → count x (g k ∷ map g ks) ≡ cond a (count (take n x) (k ∷ ks)) 0
    pick true true true e f i w =
        let a = one-if (tuple_eq (g k) x) f in
        let b = one-if (tuple_eq k (take n x)) i in
        omega (arith, count-cons x (g k) (map g ks), count-cons (take n x) k ks, a, b, w)
    pick true true false e f i w = absurd (
        let is : k ≡ take n x = sym (front k len) ∙ ap (λ (y : Row). take n y)
        (same-key (g k) x f) in
        let yes : tuple_eq k (take n x) ≡ true = subst (λ (y : Row). tuple_eq k y ≡ true) is
        (self-key k) in
        let bad : true ≡ false = sym yes ∙ i in cc)
    pick true false true e f i w = absurd (
        let is : k ≡ take n x = same-key k (take n x) i in
        let yes : tuple_eq (g k) x ≡ true =
        subst (λ (y : Row). tuple_eq (g y) x ≡ true) (sym is) e in
        let bad : true ≡ false = sym yes ∙ f in cc)
    pick true false false e f i w =
        let a = zero-if (tuple_eq (g k) x) f in
        let b = zero-if (tuple_eq k (take n x)) i in
        omega (arith, count-cons x (g k) (map g ks), count-cons (take n x) k ks, a, b, w)
    pick false true c e f i w = absurd (
        let is : k ≡ take n x = sym (front k len) ∙ ap (λ (y : Row). take n y)
        (same-key (g k) x f) in
        let yes : tuple_eq (g (take n x)) x ≡ true =
        subst (λ (y : Row). tuple_eq (g y) x ≡ true) is f in
        let bad : true ≡ false = sym yes ∙ e in cc)
    pick false false c e f i w =
        let a = zero-if (tuple_eq (g k) x) f in
        omega (arith, count-cons x (g k) (map g ks), a, w)

count-keys : (n : ℕ) (g : Row → Row) (x : Row) (ks : List Row)
    → ((j : Row) → length j ≡ n → take n (g j) ≡ j) → All (λ k. length k ≡ n) ks
    → count x (map g ks) ≡ cond (tuple_eq (g (take n x)) x) (count (take n x) ks) 0
count-keys n g x [] front all = none (tuple_eq (g (take n x)) x)
  where
    none : (b : Bool) → 0 ≡ cond {A = ℕ} b 0 0
    none true = refl
    none false = refl
count-keys n g x (k ∷ ks) front all =
    key-step n g x k ks front (All-head (λ (k : Row). length k ≡ n) k ks all)
    (count-keys n g x ks front (All-tail (λ (k : Row). length k ≡ n) k ks all))

keys-of : (columns : List ℕ) (rows : List Row) → HasKeys columns rows
    → All (λ k. length k ≡ length columns) (map (at_columns columns) rows)
keys-of columns [] all = All-nil (λ (k : Row). length k ≡ length columns)
keys-of columns (row ∷ rows) all =
    All-cons (λ (k : Row). length k ≡ length columns) (at_columns columns row)
    (map (at_columns columns) rows)
    (All-head (λ (row : Row). length (at_columns columns row) ≡ length columns) row rows all)
    (keys-of columns rows
    (All-tail (λ (row : Row). length (at_columns columns row) ≡ length columns) row rows all))

key-count : (columns : List ℕ) (k : Row) (rows : List Row)
    → count k (map (at_columns columns) rows) ≡ length (with_key columns rows k)
key-count columns k rows =
    weigh-count (λ (row : Row). tuple_eq row k) (map (at_columns columns) rows)
    ∙ weigh-map (λ (row : Row). cond {A = ℕ} (tuple_eq row k) 1 0) (at_columns columns) rows
    ∙ sym (group-length columns k rows)

-- a key that a row has is as long as the columns are many
long-key : (columns : List ℕ) (k : Row) (rows : List Row) → HasKeys columns rows
    → 0 < weigh (row_of_key (at_columns columns) k) rows → length k ≡ length columns
long-key columns k [] all s = absurd (omega arith)
long-key columns k (row ∷ rows) all s =
    pick (tuple_eq (at_columns columns row) k) refl s
    (long-key columns k rows
    (All-tail (λ (row : Row). length (at_columns columns row) ≡ length columns) row rows all))
  where
    pick : (b : Bool) → tuple_eq (at_columns columns row) k ≡ b
        → 0 < cond {A = ℕ} b 1 0 + weigh (row_of_key (at_columns columns) k) rows
        → (0 < weigh (row_of_key (at_columns columns) k) rows → length k ≡ length columns)
        → length k ≡ length columns
    pick true e w rest =
        ap (λ (y : Row). length y) (sym (same-key (at_columns columns row) k e))
        ∙ All-head (λ (row : Row). length (at_columns columns row) ≡ length columns) row rows all
    pick false e w rest = rest (omega (arith, w))

-- as often as in the algebra's grouping
pub count-grouped : (columns : List ℕ) (aggs : List Agg) (x : Row) (bags : RowBags)
    → HasKeys columns (bags 0)
    → count x (grouped columns aggs (bags 0))
    ≡ group_gives columns aggs (take (length columns) x) bags x
unfolding grouped
count-grouped columns aggs x bags all =
    let n : ℕ = length columns in
    let j : Row = take n x in
    let g : Row → Row = group_row columns aggs (bags 0) in
    let ks : List Row = map (at_columns columns) (bags 0) in
    let a = count-keys n g x (distinct ks)
    (λ k len. ap (λ (i : ℕ). take i (g k)) (sym len)
    ∙ take-key k (map (aggregate (with_key columns (bags 0) k)) aggs))
    (keys-distinct n ks (keys-of columns (bags 0) all)) in
    let b = count-distinct j ks in
    let c = key-count columns j (bags 0) in
    let d = group-length columns j (bags 0) in
    a ∙ pick (tuple_eq (g j) x) (count j (distinct ks)) (length (with_key columns (bags 0) j))
    (eqb (length j) n) (omega (arith, b, c))
    (λ s. same (length j) n (long-key columns j (bags 0) all (omega (arith, s, d))))
  where
    same : (p q : ℕ) → p ≡ q → eqb p q ≡ true
    same p q e = grind (arith, nat_tests)

    above : (i : ℕ) → nat_lt 0 (suc i) ≡ true
    above i = grind (arith, nat_tests)

    pick : (b : Bool) (m len : ℕ) (c : Bool) → m ≡ min len 1 → (0 < len → c ≡ true)
        → cond b m 0 ≡ cond (nat_lt 0 len) (cond {A = ℕ} c (cond {A = ℕ} b 1 0) 0) 0
    pick b m zero c e f = none b m (omega (arith, e))
      where
        none : (d : Bool) (i : ℕ) → i ≡ 0 → cond d i 0 ≡ 0
        none true i z = z
        none false i z = refl
    pick b m (suc len) c e f =
        let one : m ≡ 1 = omega (arith, e) in
        ap (λ (i : ℕ). cond b i 0) one
        ∙ sym (ap (λ (d : Bool). cond {A = ℕ} d (cond {A = ℕ} c (cond {A = ℕ} b 1 0) 0) 0)
        (above len)
        ∙ ap (λ (d : Bool). cond {A = ℕ} d (cond {A = ℕ} b 1 0) 0) (f (omega arith)))
