-- Parts as rows come and go, and what is read from them.
use Rattle.std.proofs.Common.{◌≡◌, ℕ, ℤ, pos, negsuc, zero, suc, ◌+◌, ◌≤◌, ◌<◌, ◌+ℤ◌}
use Rattle.std.proofs.Common.{List, [], ◌∷◌, ◌++◌, map, length, take, get_or, set}
use Rattle.std.proofs.Common.{refl}
use Rattle.std.proofs.Common.{sym, ◌∙◌, subst, ap, arith, FitsSigned, add-one, ◌^◌, to_z, of_z}
use Rattle.std.specs.Int.{w64, w128, int_div_euclid, saturate_signed}
use Rattle.std.specs.List.{AllByRecursion}
use Rattle.std.specs.BTreeMap.{BTreeMap}
use Rattle.std.proofs.Math.Nat.{div-le_of_le-mul, div-lt_iff_lt-mul}
use Rattle.std.proofs.lemmas.Int.{ints, to_z-of_z}
use Rattle.pipes_tuple.specs.declared.value.Value.{Value}
use Rattle.pipes_expr.specs.ExprValue.{Row, column}
use Rattle.pipes_relation.specs.declared.lists.Agg.{Agg}
use Rattle.pipes_relation.specs.Aggregate.{number, exact_sum, FitsRows}
use Rattle.pipes_relation.proofs.Sums.{IsSumOf, sum_more}
use Rattle.pipes_group.specs.declared.part.Part.{Part}
use Rattle.pipes_group.specs.declared.part.Part.TheVariants as part
use Rattle.pipes_group.specs.Values.{CountsIn, CountsOut}
use Rattle.pipes_group.specs.Parts.{agg_read, column_read, IntsFit, PartOf, PartGains, PartLoses}
use Rattle.pipes_group.specs.Parts.{PartsGain}
use Rattle.pipes_group.specs.Parts.{PartsLose}
use Rattle.pipes_group.proofs.Counted.{values_more, values_less}

-- ---- a row more

pub least_gains : (row : Row) (c : ℕ) (v : Value) (old new : BTreeMap Value ℕ) → v ≡ column row c
    → CountsIn v old new → PartGains row (part.Least c old) (part.Least c new)
least_gains row c v old new is puts = record {
  agg = refl;
  more = λ rows h. values_more c row rows v old new is puts h;
}

pub greatest_gains : (row : Row) (c : ℕ) (v : Value) (old new : BTreeMap Value ℕ)
    → v ≡ column row c → CountsIn v old new
    → PartGains row (part.Greatest c old) (part.Greatest c new)
greatest_gains row c v old new is puts = record {
  agg = refl;
  more = λ rows h. values_more c row rows v old new is puts h;
}

-- ---- a row less

pub least_loses : (row : Row) (c : ℕ) (v : Value) (old new : BTreeMap Value ℕ) → v ≡ column row c
    → CountsOut v old new → PartLoses row (part.Least c old) (part.Least c new)
least_loses row c v old new is puts = record {
  agg = refl;
  less = λ rows h. values_less c row rows v old new is puts h;
}

pub greatest_loses : (row : Row) (c : ℕ) (v : Value) (old new : BTreeMap Value ℕ)
    → v ≡ column row c → CountsOut v old new
    → PartLoses row (part.Greatest c old) (part.Greatest c new)
greatest_loses row c v old new is puts = record {
  agg = refl;
  less = λ rows h. values_less c row rows v old new is puts h;
}

-- ---- part by part
-- the first n are of one kind, and the others of another
abbrev Mixed : (Part → Type 0) → (Part → Type 0) → ℕ → List Part → Type 0
Mixed P Q n [] = Unit {0}
Mixed P Q zero (p ∷ ps) = Q p × Mixed P Q zero ps
Mixed P Q (suc n) (p ∷ ps) = P p × Mixed P Q n ps

mixed-start : (P Q : Part → Type 0) (ps : List Part) → AllByRecursion Q ps → Mixed P Q zero ps
mixed-start P Q [] all = tt
mixed-start P Q (p ∷ ps) all = (all.0, mixed-start P Q ps all.1)

mixed-end : (P Q : Part → Type 0) (n : ℕ) (ps : List Part) → length ps ≤ n → Mixed P Q n ps
    → AllByRecursion P ps
mixed-end P Q n [] h m = tt
mixed-end P Q zero (p ∷ ps) h m = absurd (omega (arith, h))
mixed-end P Q (suc n) (p ∷ ps) h m = (m.0, mixed-end P Q n ps (omega (arith, h)) m.1)

mixed-set : (P Q : Part → Type 0) (ps : List Part) (i : ℕ) (was is : Part) → i < length ps
    → was ≡ get_or ps i was → (Q was → P is) → Mixed P Q i ps → Mixed P Q (suc i) (set ps i is)
mixed-set P Q [] i was is h e f m = absurd (omega (arith, h))
mixed-set P Q (p ∷ ps) zero was is h e f m = (f (subst Q (sym e) m.0), m.1)
mixed-set P Q (p ∷ ps) (suc i) was is h e f m =
    (m.0, mixed-set P Q ps i was is (omega (arith, h)) e f m.1)

aggs-set : (ps : List Part) (i : ℕ) (was is : Part) → i < length ps → was ≡ get_or ps i was
    → agg_read is ≡ agg_read was → map agg_read (set ps i is) ≡ map agg_read ps
aggs-set [] i was is h e f = absurd (omega (arith, h))
aggs-set (p ∷ ps) zero was is h e f =
    ap (λ (a : Agg). a ∷ map agg_read ps) (f ∙ ap agg_read e)
aggs-set (p ∷ ps) (suc i) was is h e f =
    ap (λ (rest : List Agg). agg_read p ∷ rest) (aggs-set ps i was is (omega (arith, h)) e f)

-- so many parts have turned
pub record PartsTurned (from to : List Row → Part → Type 0) (i : ℕ) (start now : List Part)
    : Type 0 where
  pub aggs : map agg_read now ≡ map agg_read start
  pub parts : (rows : List Row) → AllByRecursion (from rows) start
      → Mixed (to rows) (from rows) i now

module _ (from to : List Row → Part → Type 0) where
  pub turned_none : (ps : List Part) → PartsTurned from to 0 ps ps
  turned_none ps = record {
    aggs = refl;
    parts = λ rows all. mixed-start (to rows) (from rows) ps all;
  }

  pub turned_next : (i : ℕ) (start now new : List Part) (was is : Part) → i < length now
      → was ≡ get_or now i was → new ≡ set now i is → agg_read is ≡ agg_read was
      → ((rows : List Row) → from rows was → to rows is) → PartsTurned from to i start now
      → PartsTurned from to (i + 1) start new
  turned_next i start now new was is h e s f turn t =
      subst (λ (ps : List Part). PartsTurned from to (i + 1) start ps) (sym s) (record {
        aggs = aggs-set now i was is h e f ∙ t.aggs;
        parts = λ rows all.
            subst (λ (n : ℕ). Mixed (to rows) (from rows) n (set now i is)) (sym (add-one i))
            (mixed-set (to rows) (from rows) now i was is h e (turn rows) (t.parts rows all));
      })

  pub turned_all : (i : ℕ) (start now : List Part) → length now ≤ i
      → PartsTurned from to i start now
      → (rows : List Row) → AllByRecursion (from rows) start → AllByRecursion (to rows) now
  turned_all i start now h t rows all = mixed-end (to rows) (from rows) i now h (t.parts rows all)

abbrev pub Gained : Row → ℕ → List Part → List Part → Type 0
Gained row = PartsTurned PartOf (λ rows. PartOf (row ∷ rows))

abbrev pub Lost : Row → ℕ → List Part → List Part → Type 0
Lost row = PartsTurned (λ rows. PartOf (row ∷ rows)) PartOf

pub gained_next : (row : Row) (i : ℕ) (start now new : List Part) (was is : Part)
    → i < length now → was ≡ get_or now i was → new ≡ set now i is → PartGains row was is
    → Gained row i start now → Gained row (i + 1) start new
gained_next row i start now new was is h e s g t =
    turned_next PartOf (λ rows. PartOf (row ∷ rows)) i start now new was is h e s g.agg g.more t

pub lost_next : (row : Row) (i : ℕ) (start now new : List Part) (was is : Part)
    → i < length now → was ≡ get_or now i was → new ≡ set now i is → PartLoses row was is
    → Lost row i start now → Lost row (i + 1) start new
lost_next row i start now new was is h e s g t =
    turned_next (λ rows. PartOf (row ∷ rows)) PartOf i start now new was is h e s g.agg g.less t

pub gained_all : (row : Row) (i : ℕ) (start now : List Part) → length now ≤ i
    → Gained row i start now → PartsGain row start now
gained_all row i start now h t = record {
  aggs = t.aggs;
  more = turned_all PartOf (λ rows. PartOf (row ∷ rows)) i start now h t;
}

pub lost_all : (row : Row) (i : ℕ) (start now : List Part) → length now ≤ i
    → Lost row i start now → PartsLose row start now
lost_all row i start now h t = record {
  aggs = t.aggs;
  less = turned_all (λ rows. PartOf (row ∷ rows)) PartOf i start now h t;
}

-- ---- parts of no rows
pub all_push : (P : Part → Type 0) (ps : List Part) (p : Part) → AllByRecursion P ps → P p
    → AllByRecursion P (ps ++ p ∷ [])
all_push P [] p all h = (h, tt)
all_push P (q ∷ ps) p all h = (all.0, all_push P ps p all.1 h)

-- ---- what is read

-- ---- the average
own-place : (rows : List Row) (i : ℕ) (d : Row) → i < length rows
    → get_or rows i d ≡ get_or rows i (get_or rows i d)
own-place [] i d h = absurd (omega (arith, h))
own-place (r ∷ rows) zero d h = refl
own-place (r ∷ rows) (suc i) d h = own-place rows i d (omega (arith, h))

fit-at : (c : ℕ) (rows : List Row) (i : ℕ) (d : Row) → i < length rows → IntsFit c rows
    → FitsSigned w64 (number (column (get_or rows i d) c))
fit-at c [] i d h f = absurd (omega (arith, h))
fit-at c (r ∷ rows) zero d h f = f.0
fit-at c (r ∷ rows) (suc i) d h f = fit-at c rows i d (omega (arith, h)) f.1

sum-upto : (c : ℕ) (rows : List Row) → IntsFit c rows → (i : ℕ) → i ≤ length rows
    → (z : ℤ) × IsSumOf c (take i rows) i z
sum-upto c rows f zero h = (pos 0, record { is = refl; fits = omega arith })
sum-upto c rows f (suc i) h =
    let s = sum-upto c rows f i (omega (arith, h)) in
    let row : Row = get_or rows i [] in (
      s.0 +ℤ number (column row c),
      subst (λ (n : ℕ). IsSumOf c (take n rows) n (s.0 +ℤ number (column row c))) (add-one i)
          (sum_more c rows i row s.0 (s.0 +ℤ number (column row c)) (number (column row c))
          (omega (arith, h)) (own-place rows i [] (omega (arith, h))) s.1 refl
          (fit-at c rows i [] (omega (arith, h)) f) refl),
    )

take-whole : (rows : List Row) → take (length rows) rows ≡ rows
take-whole [] = refl
take-whole (r ∷ rows) = ap (λ (rs : List Row). r ∷ rs) (take-whole rows)

-- no sum of as many integers of 64 bits is further from 0
pub fits_rows : (c : ℕ) (rows : List Row) → IntsFit c rows
    → FitsRows (length rows) (exact_sum c rows)
fits_rows c rows f =
    let s = sum-upto c rows f (length rows) (omega arith) in
    let is : s.0 ≡ exact_sum c rows =
    s.1.is ∙ ap (λ (rs : List Row). exact_sum c rs) (take-whole rows) in
    subst (λ (z : ℤ). FitsRows (length rows) z) is s.1.fits

wider : (z : ℤ) → FitsSigned w64 z → FitsSigned w128 z
wider (pos a) f = omega (arith, f)
wider (negsuc a) f = omega (arith, f)

same-whole : (z : ℤ) → FitsSigned w64 z → saturate_signed w64 z ≡ z
same-whole (pos a) f = grind (arith)
same-whole (negsuc a) f = grind (arith)

quotient_within : (n : ℕ) (sum : ℤ) → 0 < n → FitsRows n sum
    → FitsSigned w64 (int_div_euclid sum (pos n))
quotient_within n (pos a) h f =
    let w = div-le_of_le-mul n {m = a} {n = 9223372036854775807} (omega (arith, f)) in
    omega (arith, w)
quotient_within n (negsuc a) h f =
    let w = (div-lt_iff_lt-mul {k = n} {x = a} {y = 9223372036854775808} h).1 f in
    omega (arith, w)

pub average_of : (count : ℕ) (sum quotient : ℤ) → 0 < count → count < 2 ^ 64
    → FitsSigned w128 sum
    → quotient ≡ int_div_euclid (to_z w128 (of_z w128 sum)) (to_z w128 count)
    → (c : ℕ) (rows : List Row) → IntsFit c rows → sum ≡ exact_sum c rows → count ≡ length rows
    → saturate_signed w64 (to_z w128 (of_z w128 quotient))
    ≡ int_div_euclid (exact_sum c rows) (pos (length rows))
average_of count sum quotient some small whole q c rows fit is many =
    let fits : FitsRows count sum =
    subst (λ (n : ℕ). FitsRows n sum) (sym many)
    (subst (λ (z : ℤ). FitsRows (length rows) z) (sym is) (fits_rows c rows fit)) in
    let exact : ℤ = int_div_euclid (exact_sum c rows) (pos count) in
    let number_is : to_z w128 count ≡ pos count = omega (arith, ints) in
    let same : quotient ≡ exact =
    q ∙ ap (λ (z : ℤ). int_div_euclid z (to_z w128 count)) (to_z-of_z w128 sum whole)
    ∙ ap (λ (z : ℤ). int_div_euclid sum z) number_is
    ∙ ap (λ (z : ℤ). int_div_euclid z (pos count)) is in
    let within : FitsSigned w64 exact =
    quotient_within count (exact_sum c rows) some
    (subst (λ (z : ℤ). FitsRows count z) is fits) in
    ap (λ (z : ℤ). saturate_signed w64 (to_z w128 (of_z w128 z))) same
    ∙ ap (λ (z : ℤ). saturate_signed w64 z) (to_z-of_z w128 exact (wider exact within))
    ∙ same-whole exact within
    ∙ ap (λ (n : ℕ). int_div_euclid (exact_sum c rows) (pos n)) many

-- ---- a part, as a row comes and goes
own-value : (row : Row) (old : Part) (p : Part) (column_is : ℕ) (v : Value) → old ≡ p
    → column_is ≡ column_read old → v ≡ column row column_is → v ≡ column row (column_read p)
own-value row old p column_is v e at is =
    is ∙ ap (λ (i : ℕ). column row i) (at ∙ ap column_read e)

pub gain_least : (row : Row) (old : Part) (c at : ℕ) (v : Value) (m n : BTreeMap Value ℕ)
    → old ≡ part.Least c m → at ≡ column_read old → v ≡ column row at → CountsIn v m n
    → PartGains row old (part.Least c n)
gain_least row old c at v m n e same is puts =
    subst (λ (p : Part). PartGains row p (part.Least c n)) (sym e)
    (least_gains row c v m n (own-value row old (part.Least c m) at v e same is) puts)

pub gain_greatest : (row : Row) (old : Part) (c at : ℕ) (v : Value) (m n : BTreeMap Value ℕ)
    → old ≡ part.Greatest c m → at ≡ column_read old → v ≡ column row at → CountsIn v m n
    → PartGains row old (part.Greatest c n)
gain_greatest row old c at v m n e same is puts =
    subst (λ (p : Part). PartGains row p (part.Greatest c n)) (sym e)
    (greatest_gains row c v m n (own-value row old (part.Greatest c m) at v e same is) puts)

pub lose_least : (row : Row) (old : Part) (c at : ℕ) (v : Value) (m n : BTreeMap Value ℕ)
    → old ≡ part.Least c m → at ≡ column_read old → v ≡ column row at → CountsOut v m n
    → PartLoses row old (part.Least c n)
lose_least row old c at v m n e same is puts =
    subst (λ (p : Part). PartLoses row p (part.Least c n)) (sym e)
    (least_loses row c v m n (own-value row old (part.Least c m) at v e same is) puts)

pub lose_greatest : (row : Row) (old : Part) (c at : ℕ) (v : Value) (m n : BTreeMap Value ℕ)
    → old ≡ part.Greatest c m → at ≡ column_read old → v ≡ column row at → CountsOut v m n
    → PartLoses row old (part.Greatest c n)
lose_greatest row old c at v m n e same is puts =
    subst (λ (p : Part). PartLoses row p (part.Greatest c n)) (sym e)
    (greatest_loses row c v m n (own-value row old (part.Greatest c m) at v e same is) puts)
