-- Lists of tuples are equal as bags exactly where they are equal up to order; what keeps bags
-- equal.
use Rattle.std.proofs.Common.{◌≡◌, ℕ, ◌+◌, ◌<◌, Bool, true, false, cond, List, [], ◌∷◌, ◌++◌, map}
use Rattle.std.proofs.Common.{refl, sym, ◌∙◌, subst, arith}
use Rattle.std.specs.List.{filter, flat_map}
use Rattle.std.proofs.lemmas.List.Sums.{sum_by-cons}
use Rattle.pipes_tuple.specs.declared.value.Value.{Value}
use Rattle.pipes_tuple.specs.Equal.{tuple_eq}
use Rattle.pipes_tuple.specs.Bag.{count, SameBag}
use Rattle.pipes_tuple.proofs.Equality.{tuple_eq-Decides}
use Rattle.pipes_tuple.proofs.Perm.{Perm, none, keep, swap, then, Perm-refl, Perm-sym, Perm-append}
use Rattle.pipes_tuple.proofs.Perm.{Perm-filter, Perm-map, Perm-flat_map, Perm-each, count_by-Perm}

abbrev Row : Type 0
Row = List Value

-- a tuple more
pub count-cons : (tuple row : Row) (rows : List Row)
    → count tuple (row ∷ rows) ≡ cond (tuple_eq row tuple) 1 0 + count tuple rows
count-cons tuple row rows = sum_by-cons (λ (row : Row). cond (tuple_eq row tuple) 1 0) row rows

-- rows that are equal up to order are equal as bags
pub SameBag-Perm : {xs ys : List Row} → Perm xs ys → SameBag xs ys
SameBag-Perm p = record { counts = λ tuple. count_by-Perm (λ row. tuple_eq row tuple) p }

-- the rows without the first that is equal to the tuple
abbrev pub without : Row → List Row → List Row
without tuple [] = []
without tuple (row ∷ rows) = cond (tuple_eq row tuple) rows (row ∷ without tuple rows)

found : (tuple row : Row) (rows : List Row) (b : Bool) → b ≡ tuple_eq row tuple
    → (b ≡ false → Perm rows (tuple ∷ without tuple rows))
    → Perm (row ∷ rows) (tuple ∷ cond b rows (row ∷ without tuple rows))
found tuple row rows true e h =
    let same = (tuple_eq-Decides row tuple).0 (sym e) in
    subst (λ (other : Row). Perm (row ∷ rows) (other ∷ rows)) same (Perm-refl (row ∷ rows))
found tuple row rows false e h = then (keep row (h refl)) (swap row tuple (without tuple rows))

counted : (b : Bool) (n : ℕ) → 0 < cond b 1 0 + n → b ≡ false → 0 < n
counted true n h e = cc
counted false n h e = omega arith

-- a tuple that occurs can be moved to the prefix
pub Perm-without : (tuple : Row) (rows : List Row) → 0 < count tuple rows
    → Perm rows (tuple ∷ without tuple rows)
Perm-without tuple [] h = absurd (omega arith)
Perm-without tuple (row ∷ rows) h =
    let occurs : 0 < cond (tuple_eq row tuple) 1 0 + count tuple rows = omega
    (arith, count-cons tuple row rows) in
    found tuple row rows (tuple_eq row tuple) refl
    (λ e. Perm-without tuple rows (counted (tuple_eq row tuple) (count tuple rows) occurs e))

own : (tuple : Row) → ◌≡◌ {A = ℕ} (cond (tuple_eq tuple tuple) 1 0) 1
own tuple = rw ((tuple_eq-Decides tuple tuple).1 refl)

-- rows that are equal as bags are equal up to order
pub Perm-SameBag : (xs ys : List Row) → SameBag xs ys → Perm xs ys
Perm-SameBag [] [] same = none
Perm-SameBag [] (y ∷ ys) same = absurd (omega (arith, same.counts y, count-cons y y ys, own y))
Perm-SameBag (x ∷ xs) ys same =
    let occurs : 0 < count x ys = omega (arith, same.counts x, count-cons x x xs, own x) in
    let moved = Perm-without x ys occurs in
    let rest : SameBag xs (without x ys) =
    record {
      counts = λ tuple. omega (
        arith,
        same.counts tuple,
        count-cons tuple x xs,
        count-cons tuple x (without x ys),
        (SameBag-Perm moved).counts tuple,
      );
    } in
    then (keep x (Perm-SameBag xs (without x ys) rest)) (Perm-sym moved)

pub SameBag-refl : (xs : List Row) → SameBag xs xs
SameBag-refl xs = record { counts = λ tuple. refl }

pub SameBag-sym : {xs ys : List Row} → SameBag xs ys → SameBag ys xs
SameBag-sym same = record { counts = λ tuple. sym (same.counts tuple) }

pub SameBag-trans : {xs ys zs : List Row} → SameBag xs ys → SameBag ys zs → SameBag xs zs
SameBag-trans same next = record { counts = λ tuple. same.counts tuple ∙ next.counts tuple }

pub SameBag-append : {xs ys us vs : List Row} → SameBag xs ys → SameBag us vs
    → SameBag (xs ++ us) (ys ++ vs)
SameBag-append {xs} {ys} {us} {vs} same next =
    SameBag-Perm (Perm-append (Perm-SameBag xs ys same) (Perm-SameBag us vs next))

pub SameBag-map : (f : Row → Row) {xs ys : List Row} → SameBag xs ys → SameBag (map f xs) (map f ys)
SameBag-map f {xs} {ys} same = SameBag-Perm (Perm-map f (Perm-SameBag xs ys same))

pub SameBag-filter : (test : Row → Bool) {xs ys : List Row} → SameBag xs ys
    → SameBag (filter test xs) (filter test ys)
SameBag-filter test {xs} {ys} same = SameBag-Perm (Perm-filter test (Perm-SameBag xs ys same))

-- the rows that each row gives
pub SameBag-flat_map : (f : Row → List Row) {xs ys : List Row} → SameBag xs ys
    → SameBag (flat_map f xs) (flat_map f ys)
SameBag-flat_map f {xs} {ys} same = SameBag-Perm (Perm-flat_map f (Perm-SameBag xs ys same))

-- the rows that each item gives, where these are equal as bags
pub SameBag-each : {X : Type 0} (f g : X → List Row) → ((x : X) → SameBag (f x) (g x))
    → (xs : List X) → SameBag (flat_map f xs) (flat_map g xs)
SameBag-each f g same xs = SameBag-Perm (Perm-each f g (λ x. Perm-SameBag (f x) (g x) (same x)) xs)

-- lists of rows, one after another, of which only the order is different
pub SameBag-concat : {xss yss : List (List Row)} → Perm xss yss
    → SameBag (flat_map (λ rows. rows) xss) (flat_map (λ rows. rows) yss)
SameBag-concat p = SameBag-Perm (Perm-flat_map (λ (rows : List Row). rows) p)
