-- How often a row is among the rows of a list, each once.
use Rattle.std.proofs.Common.{◌≡◌, ℕ, min, Bool, true, false, not, cond, List, [], ◌∷◌, refl}
use Rattle.std.proofs.Common.{sym, subst, ap, arith}
use Rattle.std.specs.List.{filter}
use Rattle.pipes_tuple.specs.declared.value.Value.{Value}
use Rattle.pipes_tuple.specs.Equal.{tuple_eq}
use Rattle.pipes_tuple.specs.Bag.{count}
use Rattle.pipes_tuple.proofs.Bags.{count-cons}
use Rattle.pipes_tuple.proofs.Equality.{tuple_eq-Decides}
use Rattle.pipes_relation.specs.Relations.{distinct}

abbrev Row : Type 0
Row = List Value

-- of the rows that are not x, those that are y
abbrev but : Row → List Row → List Row
but x rows = filter (λ row. not (tuple_eq row x)) rows

one : Bool → ℕ
one b = cond b 1 0

-- y is x
drops : (b : Bool) (x row : Row) (rows : List Row) → tuple_eq row x ≡ b → count x (but x rows) ≡ 0
    → count x (cond (not b) (row ∷ but x rows) (but x rows)) ≡ 0
drops true x row rows e h = h
drops false x row rows e h =
    let a : ◌≡◌ {A = ℕ} (cond (tuple_eq row x) 1 0) 0 = ap (λ (b : Bool). cond {A = ℕ} b 1 0) e in
    omega (arith, count-cons x row (but x rows), a, h)

count-but_own : (x : Row) (rows : List Row) → count x (but x rows) ≡ 0
count-but_own x [] = refl
count-but_own x (row ∷ rows) = drops (tuple_eq row x) x row rows refl (count-but_own x rows)

-- y is another
not-own : (x y row : Row) → tuple_eq x y ≡ false → tuple_eq row x ≡ true → tuple_eq row y ≡ false
not-own x y row n e = subst (λ (r : Row). tuple_eq r y ≡ false) (sym ((tuple_eq-Decides row x).0 e))
    n

keeps : (b : Bool) (x y row : Row) (rows : List Row) → tuple_eq x y ≡ false → tuple_eq row x ≡ b
    → count y (but x rows) ≡ count y rows
    → count y (cond (not b) (row ∷ but x rows) (but x rows)) ≡ count y (row ∷ rows)
keeps true x y row rows n e h =
    let a : ◌≡◌ {A = ℕ} (cond (tuple_eq row y) 1 0) 0 =
    ap (λ (b : Bool). cond {A = ℕ} b 1 0) (not-own x y row n e) in
    omega (arith, count-cons y row rows, a, h)
keeps false x y row rows n e h =
    omega (arith, count-cons y row rows, count-cons y row (but x rows), h)

count-but_other : (x y : Row) (rows : List Row) → tuple_eq x y ≡ false
    → count y (but x rows) ≡ count y rows
count-but_other x y [] n = refl
count-but_other x y (row ∷ rows) n =
    keeps (tuple_eq row x) x y row rows n refl (count-but_other x y rows n)

counted : (b : Bool) (x y : Row) (rows : List Row) → tuple_eq x y ≡ b
    → count y (distinct rows) ≡ min (count y rows) 1
    → count y (x ∷ but x (distinct rows)) ≡ min (count y (x ∷ rows)) 1
counted true x y rows e h =
    let a : ◌≡◌ {A = ℕ} (cond (tuple_eq x y) 1 0) 1 = ap (λ (b : Bool). cond {A = ℕ} b 1 0) e in
    let none : count y (but x (distinct rows)) ≡ 0 =
    subst (λ (r : Row). count r (but x (distinct rows)) ≡ 0) ((tuple_eq-Decides x y).0 e)
    (count-but_own x (distinct rows)) in
    omega (arith, count-cons y x (but x (distinct rows)), count-cons y x rows, a, none)
counted false x y rows e h =
    let a : ◌≡◌ {A = ℕ} (cond (tuple_eq x y) 1 0) 0 = ap (λ (b : Bool). cond {A = ℕ} b 1 0) e in
    omega (
      arith,
      count-cons y x (but x (distinct rows)),
      count-cons y x rows,
      a,
      count-but_other x y (distinct rows) e,
      h,
    )

-- once where it is in the list, and else not at all
pub count-distinct : (y : Row) (rows : List Row) → count y (distinct rows) ≡ min (count y rows) 1
count-distinct y [] = refl
count-distinct y (x ∷ rows) = counted (tuple_eq x y) x y rows refl (count-distinct y rows)
