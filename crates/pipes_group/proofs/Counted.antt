-- Values as they are counted, and the first and the last of them.
use Rattle.std.proofs.Common.{◌≡◌, ℕ, suc, zero, ◌+◌, ◌-◌, ◌≤◌, ◌<◌, ◌⊎◌, inl, inr, Bool, true}
use Rattle.std.proofs.Common.{false}
use Rattle.std.proofs.Common.{cond, List, [], ◌∷◌, length, fold, Option, Some, None, unwrap_or}
use Rattle.std.proofs.Common.{refl, sym, ◌∙◌, subst, ap, arith, is_lt, is_gt, is_eq}
use Rattle.std.specs.List.{AllByRecursion, count_by}
use Rattle.std.specs.Option.{IsSome}
use Rattle.std.specs.Prelude.{IfOk, Result, Ok, Err}
use Rattle.std.specs.Map.{lookup}
use Rattle.std.specs.declared.cmp.Ordering.{Ordering}
use Rattle.std.specs.declared.cmp.Ordering.TheVariants.{Less, Equal, Greater}
use Rattle.std.specs.Ordering.{ordering_reverse}
use Rattle.std.specs.BTreeMap.{BTreeMap, get, btree_map_len, IsLowerBound, IsUpperBound}
use Rattle.std.proofs.lemmas.List.Sums.{sum_by-cons}
use Rattle.pipes_plan.proofs.SameAnswers.{tied}
use Rattle.pipes_tuple.specs.declared.value.Value.{Value}
use Rattle.pipes_tuple.specs.Equal.{value_eq}
use Rattle.pipes_tuple.specs.Order.{value_cmp}
use Rattle.pipes_tuple.specs.OrderLaws.{value_cmp-total, value_cmp-ties}
use Rattle.pipes_tuple.proofs.Equality.{value_eq-Decides}
use Rattle.pipes_tuple.proofs.Orders.{value_cmp-Equal}
use Rattle.pipes_expr.specs.ExprValue.{Row, column, no_value}
use Rattle.pipes_relation.specs.Aggregate.{values_at, least_value, greatest_value}
use Rattle.pipes_group.specs.Values.{value_count, found_count, NoneGone, HasValues, CountsIn}
use Rattle.pipes_group.specs.Values.{CountsOut}

abbrev Counts : Type 0
Counts = BTreeMap Value ℕ

-- ---- one more, one less
-- the map has another number at the value
abbrev PutsAt : Value → Option ℕ → Counts → Counts → Type 0
PutsAt value n old new =
    (q : Value) → get value_cmp new q ≡ cond (is_eq (value_cmp value q)) n (get value_cmp old q)

number_at : (value : Value) (n : Option ℕ) (old new : Counts) → PutsAt value n old new
    → (v : Value) → found_count new v ≡ cond (value_eq value v) (unwrap_or n 0) (found_count old v)
number_at value n old new puts v =
    ap (λ (o : Option ℕ). unwrap_or o 0) (puts v)
    ∙ ap (λ (b : Bool). unwrap_or (cond b n (get value_cmp old v)) 0) (sym (value_cmp-ties value v))
    ∙ pick (value_eq value v)
  where
    pick : (b : Bool) → unwrap_or (cond b n (get value_cmp old v)) 0
        ≡ cond b (unwrap_or n 0) (found_count old v)
    pick true = refl
    pick false = refl

-- the numbers there stay above 0
there_after : (value : Value) (n : Option ℕ) (old new : Counts) → PutsAt value n old new
    → ((m : ℕ) → n ≡ Some m → 0 < m) → NoneGone old → NoneGone new
there_after value n old new puts above there v m h =
    pick (is_eq (value_cmp value v)) (sym (puts v) ∙ h)
  where
    pick : (b : Bool) → cond b n (get value_cmp old v) ≡ Some m → 0 < m
    pick true e = above m e
    pick false e = there v m e

same_value : (value v : Value) → value_eq value v ≡ true → value ≡ v
same_value value v e = (value_eq-Decides value v).0 e

pub counted_in : (value : Value) (n : ℕ) (old new : Counts) → n ≡ found_count old value + 1
    → PutsAt value (Some n) old new → CountsIn value old new
counted_in value n old new more puts = record {
  counts = λ v. number_at value (Some n) old new puts v ∙ pick v (value_eq value v) refl;
  there = there_after value (Some n) old new puts
      (λ m e. let is : n ≡ m = cc in omega (arith, is, more));
}
  where
    pick : (v : Value) (b : Bool) → value_eq value v ≡ b
        → cond b n (found_count old v) ≡ cond b 1 0 + found_count old v
    pick v true e =
        let is : found_count old value ≡ found_count old v =
        ap (λ (w : Value). found_count old w) (same_value value v e) in
        omega (arith, is, more)
    pick v false e = omega arith

pub counted_down : (value : Value) (n : ℕ) (old new : Counts) → found_count old value ≡ n + 1
    → 0 < n
    → PutsAt value (Some n) old new → CountsOut value old new
counted_down value n old new more some puts = record {
  counts = λ v. number_at value (Some n) old new puts v ∙ pick v (value_eq value v) refl;
  there = there_after value (Some n) old new puts
      (λ m e. let is : n ≡ m = cc in omega (arith, is, some));
}
  where
    pick : (v : Value) (b : Bool) → value_eq value v ≡ b
        → cond b n (found_count old v) ≡ found_count old v - cond b 1 0
    pick v true e =
        let is : found_count old value ≡ found_count old v =
        ap (λ (w : Value). found_count old w) (same_value value v e) in
        omega (arith, is, more)
    pick v false e = omega arith

pub counted_out : (value : Value) (old new : Counts) → found_count old value ≤ 1
    → PutsAt value None old new → CountsOut value old new
counted_out value old new few puts = record {
  counts = λ v. number_at value None old new puts v ∙ pick v (value_eq value v) refl;
  there = there_after value None old new puts (λ m e. absurd cc);
}
  where
    pick : (v : Value) (b : Bool) → value_eq value v ≡ b
        → cond b 0 (found_count old v) ≡ found_count old v - cond b 1 0
    pick v true e =
        let is : found_count old value ≡ found_count old v =
        ap (λ (w : Value). found_count old w) (same_value value v e) in
        omega (arith, is, few)
    pick v false e = omega arith

-- ---- rows more and less
count-value : (c : ℕ) (row : Row) (rows : List Row) (v : Value)
    → value_count c (row ∷ rows) v
    ≡ cond (value_eq (column row c) v) 1 0 + value_count c rows v
count-value c row rows v =
    sum_by-cons (λ (w : Value). cond (value_eq w v) 1 0) (column row c) (values_at c rows)

pub values_more : (c : ℕ) (row : Row) (rows : List Row) (value : Value) (old new : Counts)
    → value ≡ column row c → CountsIn value old new → HasValues old c rows
    → HasValues new c (row ∷ rows)
values_more c row rows value old new is puts h = record {
  counts = λ v.
      (let a = puts.counts v in
      let b = h.counts v in
      let d = count-value c row rows v in
      let e : ◌≡◌ {A = ℕ} (cond (value_eq value v) 1 0) (cond (value_eq (column row c) v) 1 0) =
      ap (λ (w : Value). cond {A = ℕ} (value_eq w v) 1 0) is in
      omega (arith, a, b, d, e));
  there = puts.there h.there;
}

pub values_less : (c : ℕ) (row : Row) (rows : List Row) (value : Value) (old new : Counts)
    → value ≡ column row c → CountsOut value old new → HasValues old c (row ∷ rows)
    → HasValues new c rows
values_less c row rows value old new is puts h = record {
  counts = λ v.
      (let a = puts.counts v in
      let b = h.counts v in
      let d = count-value c row rows v in
      let e : ◌≡◌ {A = ℕ} (cond (value_eq value v) 1 0) (cond (value_eq (column row c) v) 1 0) =
      ap (λ (w : Value). cond {A = ℕ} (value_eq w v) 1 0) is in
      omega (arith, a, b, d, e));
  there = puts.there h.there;
}

-- ---- the best value
abbrev Occurs : Value → List Value → Type 0
Occurs v xs = 0 < count_by (λ w. value_eq w v) xs

module _ (lt : Value → Value → Bool) (v : Value)
    (ties : (a : Value) → lt a v ≡ false → lt v a ≡ false → a ≡ v) where
  abbrev chosen : Value → Value → Value
  chosen a b = cond (lt b a) b a

  best : (a : Value) (xs : List Value) → lt a v ≡ false
      → AllByRecursion (λ w. lt w v ≡ false) xs → (lt v a ≡ false) ⊎ Occurs v xs
      → fold chosen a xs ≡ v
  best a [] low all (inl h) = ties a low h
  best a [] low all (inr h) = absurd (omega (arith, h))
  best a (x ∷ xs) low all (inl h) =
      let is : a ≡ v = ties a low h in
      let no : lt x a ≡ false = ap (λ (w : Value). lt x w) is ∙ all.0 in
      ap (λ (b : Bool). fold chosen (cond b x a) xs) no ∙ best a xs low all.1 (inl h)
  best a (x ∷ xs) low all (inr h) =
      pick (lt x a) (value_eq x v) refl refl (λ b l t. best b xs l all.1 t)
    where
      some : value_eq x v ≡ false → Occurs v xs
      some e =
          let a = sum_by-cons (λ (w : Value). cond (value_eq w v) 1 0) x xs in
          let z : ◌≡◌ {A = ℕ} (cond (value_eq x v) 1 0) 0 =
          ap (λ (b : Bool). cond {A = ℕ} b 1 0) e in
          omega (arith, a, z, h)

      pick : (b e : Bool) → lt x a ≡ b → value_eq x v ≡ e
          → ((c : Value) → lt c v ≡ false → (lt v c ≡ false) ⊎ Occurs v xs → fold chosen c xs ≡ v)
          → fold chosen (cond b x a) xs ≡ v
      pick true true f g rest =
          let is : x ≡ v = (value_eq-Decides x v).0 g in
          let no : lt v x ≡ false =
          subst (λ (w : Value). lt w x ≡ false) is
          (subst (λ (w : Value). lt x w ≡ false) (sym is) all.0) in
          rest x all.0 (inl no)
      pick true false f g rest = rest x all.0 (inr (some g))
      pick false true f g rest =
          let is : x ≡ v = (value_eq-Decides x v).0 g in
          rest a low (inl (subst (λ (w : Value). lt w a ≡ false) is f))
      pick false false f g rest = rest a low (inr (some g))

  all-from : (xs : List Value) → ((w : Value) → Occurs w xs → lt w v ≡ false)
      → AllByRecursion (λ w. lt w v ≡ false) xs
  all-from [] low = tt
  all-from (x ∷ xs) low = (
    low x (
        let a = sum_by-cons (λ (w : Value). cond (value_eq w x) 1 0) x xs in
        let b : ◌≡◌ {A = ℕ} (cond (value_eq x x) 1 0) 1 =
        ap (λ (b : Bool). cond {A = ℕ} b 1 0) ((value_eq-Decides x x).1 refl) in
        omega (arith, a, b)),
    all-from xs (λ w h. low w (
        let a = sum_by-cons (λ (u : Value). cond (value_eq u w) 1 0) x xs in
        omega (arith, a, h))),
  )

  -- one that occurs, and below which there is none
  best_of : (xs : List Value) → Occurs v xs → ((w : Value) → Occurs w xs → lt w v ≡ false)
      → (all : List Value → Value) → ((a : Value) (rest : List Value) → all (a ∷ rest)
      ≡ fold chosen a rest) → all xs ≡ v
  best_of [] some low all is = absurd (omega (arith, some))
  best_of (x ∷ xs) some low all is =
      let each = all-from (x ∷ xs) low in
      is x xs ∙ best x xs each.0 each.1 (here (value_eq x v) refl)
    where
      here : (e : Bool) → value_eq x v ≡ e → (lt v x ≡ false) ⊎ Occurs v xs
      here true g =
          let same : x ≡ v = (value_eq-Decides x v).0 g in
          let each = all-from (x ∷ xs) low in
          inl (subst (λ (w : Value). lt w x ≡ false) same
          (subst (λ (w : Value). lt x w ≡ false) (sym same) each.0))
      here false g = inr (
          let a = sum_by-cons (λ (w : Value). cond (value_eq w v) 1 0) x xs in
          let z : ◌≡◌ {A = ℕ} (cond (value_eq x v) 1 0) 0 =
          ap (λ (b : Bool). cond {A = ℕ} b 1 0) g in
          omega (arith, a, z, some))

ties-below : (v a : Value) → is_lt (value_cmp a v) ≡ false → is_lt (value_cmp v a) ≡ false → a ≡ v
ties-below v a h g =
    value_cmp-Equal a v (tied (value_cmp a v) (value_cmp v a) (value_cmp-total.antisymm v a) h g)

ties-above : (v a : Value) → is_lt (value_cmp v a) ≡ false → is_lt (value_cmp a v) ≡ false → a ≡ v
ties-above v a h g = ties-below v a g h

turned : (o p : Ordering) → p ≡ ordering_reverse o → is_gt o ≡ false → is_lt p ≡ false
turned Less p e h = ap is_lt e
turned Equal p e h = ap is_lt e
turned Greater p e h = absurd (let bad : true ≡ false = h in cc)

-- a value that occurs is in the map
in-map : (values : Counts) (c : ℕ) (rows : List Row) → HasValues values c rows → (v : Value)
    → Occurs v (values_at c rows) → IsSome (get value_cmp values v)
in-map values c rows h v some =
    let a = h.counts v in pick (get value_cmp values v) (omega (arith, a, some))
  where
    pick : (o : Option ℕ) → 0 < unwrap_or o 0 → IsSome o
    pick None s = absurd (omega (arith, s))
    pick (Some n) s = refl

occurs : (values : Counts) (c : ℕ) (rows : List Row) (v : Value) (n : ℕ) → HasValues values c rows
    → get value_cmp values v ≡ Some n → Occurs v (values_at c rows)
occurs values c rows v n h is =
    let a = h.counts v in
    let b : found_count values v ≡ n = ap (λ (o : Option ℕ). unwrap_or o 0) is in
    let d = h.there v n is in
    omega (arith, a, b, d)

pub least_is : (values : Counts) (c : ℕ) (rows : List Row) (v : Value) (n : ℕ)
    → get value_cmp values v ≡ Some n → IsLowerBound value_cmp values v → HasValues values c rows
    → v ≡ least_value (values_at c rows)
least_is values c rows v n is low h =
    sym (best_of (λ a b. is_lt (value_cmp a b)) v (ties-below v) (values_at c rows)
    (occurs values c rows v n h is)
    (λ w some. turned (value_cmp v w) (value_cmp w v) (value_cmp-total.antisymm w v)
    (low w (in-map values c rows h w some))) least_value (λ a rest. refl))

pub greatest_is : (values : Counts) (c : ℕ) (rows : List Row) (v : Value) (n : ℕ)
    → get value_cmp values v ≡ Some n → IsUpperBound value_cmp values v → HasValues values c rows
    → v ≡ greatest_value (values_at c rows)
greatest_is values c rows v n is high h =
    sym (best_of (λ a b. is_lt (value_cmp b a)) v (ties-above v) (values_at c rows)
    (occurs values c rows v n h is)
    (λ w some. high w (in-map values c rows h w some)) greatest_value (λ a rest. refl))

-- a map without entries is of no rows
nothing-at : (test : Value → Bool) (es : List (Value × ℕ)) → length es ≡ 0
    → unwrap_or (lookup test es) 0 ≡ 0
nothing-at test [] e = refl
nothing-at test (p ∷ es) e = absurd (omega (arith, e))

pub no_rows : (values : Counts) (c : ℕ) (rows : List Row) → btree_map_len values ≡ 0
    → HasValues values c rows → rows ≡ []
no_rows values c [] e h = refl
no_rows values c (row ∷ rows) e h = absurd (
    let v : Value = column row c in
    let a = h.counts v in
    let b : found_count values v ≡ 0 = nothing-at (λ k. is_eq (value_cmp v k)) values.entries e in
    let d = count-value c row rows v in
    let one : ◌≡◌ {A = ℕ} (cond (value_eq v v) 1 0) 1 =
    ap (λ (b : Bool). cond {A = ℕ} b 1 0) ((value_eq-Decides v v).1 refl) in
    omega (arith, a, b, d, one))

pub no_least : (values : Counts) (c : ℕ) (rows : List Row) → btree_map_len values ≡ 0
    → HasValues values c rows → no_value ≡ least_value (values_at c rows)
no_least values c rows e h =
    ap (λ (rs : List Row). least_value (values_at c rs)) (sym (no_rows values c rows e h))

pub no_greatest : (values : Counts) (c : ℕ) (rows : List Row) → btree_map_len values ≡ 0
    → HasValues values c rows → no_value ≡ greatest_value (values_at c rows)
no_greatest values c rows e h =
    ap (λ (rs : List Row). greatest_value (values_at c rs)) (sym (no_rows values c rows e h))

-- ---- of a call
pub copied_as : {A E : Type 0} {P Q : A → Type 0} (r : Result A E) → IfOk r P
    → ((a : A) → P a → Q a) → IfOk r Q
copied_as (Ok a) h f = f a h
copied_as (Err e) h f = tt

pub no_entries : (n : ℕ) → (0 < n → false ≡ true) → n ≡ 0
no_entries zero f = refl
no_entries (suc n) f = absurd (let bad = f (omega arith) in cc)
