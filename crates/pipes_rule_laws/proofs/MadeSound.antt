-- The two sides of each rule of maps over maps, of maps and joins below distinct, and of groups
-- mean the same.
use Rattle.std.proofs.Common.{◌≡◌, ℕ, pos, ◌+◌, ◌≤◌, Bool, true, false, ◌&&◌, cond, List}
use Rattle.std.proofs.Common.{[], ◌∷◌, ◌++◌, map, fold, length, refl, sym, ap, ◌∙◌, subst, arith}
use Rattle.std.proofs.Common.{Option, Some, None, slice_get, unwrap_or, length-append}
use Rattle.std.specs.List.{All, filter}
use Rattle.std.specs.Option.{option_map}
use Rattle.std.specs.Ordering.{is_lt}
use Rattle.std.proofs.Math.ListN.{length-map}
use Rattle.std.proofs.lemmas.List.{map-append}
use Rattle.pipes_tuple.specs.declared.value.Value.{Value}
use Rattle.pipes_tuple.specs.declared.value.Value.TheVariants as value
use Rattle.pipes_tuple.specs.declared.value.Kind.{Kind}
use Rattle.pipes_tuple.specs.declared.value.Kind.TheVariants as kind
use Rattle.pipes_tuple.specs.Kinds.{kind_of, Fits}
use Rattle.pipes_tuple.specs.Bag.{count, SameBag}
use Rattle.pipes_tuple.specs.Columns.{at_columns}
use Rattle.pipes_tuple.specs.Equal.{tuple_eq}
use Rattle.pipes_tuple.specs.Order.{value_cmp}
use Rattle.pipes_tuple.proofs.Perm.{Perm, Perm-filter}
use Rattle.pipes_tuple.proofs.Bags.{SameBag-refl, SameBag-trans, SameBag-map}
use Rattle.pipes_expr.specs.declared.expr.Expr.{Expr}
use Rattle.pipes_expr.specs.ExprValue.{Row, column, value_of}
use Rattle.pipes_expr.specs.ExprKind.{expr_kind, kind_in}
use Rattle.pipes_expr.proofs.ExprTyped.{value_kind}
use Rattle.pipes_relation.specs.declared.lists.Agg.{Agg}
use Rattle.pipes_relation.specs.declared.lists.Agg.TheVariants.{Count, Sum, Min, Max, Avg}
use Rattle.pipes_plan.specs.declared.plan.Plan.{Plan}
use Rattle.pipes_plan.specs.declared.plan.Plan.TheVariants.{Map, Distinct, Group}
use Rattle.pipes_relation.specs.Aggregate.{aggregate, smaller, greater, values_at}
use Rattle.pipes_plan.specs.Algebra.{alg}
use Rattle.pipes_relation.specs.Relations.{values_of, distinct, with_key, group_row, grouped}
use Rattle.pipes_plan.specs.PlanKinds.{plan_kinds, IsTyped, all_kinds}
use Rattle.pipes_plan.proofs.PlanEquations.{alg-Map, alg-Distinct, alg-Group}
use Rattle.pipes_plan.proofs.PlanTyped.{map_is, all_kinds-cons}
use Rattle.pipes_plan.proofs.SameAnswers.{aggregate-Perm}
use Rattle.pipes_rewrite.specs.BagForms.{is_extreme, all_extremes}
use Rattle.pipes_rewrite.specs.Changes.{expr_in, expr_changed, exprs_changed}
use Rattle.pipes_rewrite.specs.SameMeaning.{SameMeaning, Alike}
use Rattle.pipes_rewrite.proofs.ChangedValues.{both_are_there, changed_value}
use Rattle.pipes_rule_laws.proofs.FilterSound.{value_at}
use Rattle.pipes_rule_laws.proofs.OnceEach.{IsOfRows, made-distinct, once_made, at_most_one}
use Rattle.pipes_rule_laws.proofs.OnceEach.{once_at_most, distinct-filter}
use Rattle.pipes_rule_laws.proofs.RowCounts.{any_once, count-once}
use Rattle.pipes_rule_laws.proofs.Same.{some_schema, same_rows, same_answers, distinct_keeps}
use Rattle.pipes_rule_laws.proofs.Same.{distinct_typed, map_kinds_of, group_kinds_of, map_under}
use Rattle.pipes_rule_laws.proofs.Same.{map_typed, typed_as, UnderMade}

-- ---- a row of each schema

abbrev sample_value : Kind → Value
sample_value kind.Int = value.Int (pos 0)
sample_value kind.Text = value.Text []
sample_value kind.Flag = value.Flag false

abbrev pub sample : List Kind → Row
sample s = map sample_value s

sample_kind : (k : Kind) → kind_of (sample_value k) ≡ k
sample_kind kind.Int = refl
sample_kind kind.Text = refl
sample_kind kind.Flag = refl

pub sample_fits : (s : List Kind) → Fits (sample s) s
sample_fits [] = refl
sample_fits (k ∷ s) = ap (λ z. z ∷ map kind_of (sample s)) (sample_kind k)
    ∙ ap (λ (ks : List Kind). k ∷ ks) (sample_fits s)

pub values_kinds : (row : Row) (s : List Kind) → Fits row s → (es : List Expr) (t : List Kind)
    → all_kinds (map (kind_in s) es) ≡ Some t → map kind_of (values_of es row) ≡ t
values_kinds row s f [] t h = cc
values_kinds row s f (e ∷ es) t h =
    let w = all_kinds-cons (kind_in s e) (map (kind_in s) es) t h in
    ap (λ k. k ∷ map kind_of (values_of es row)) (value_kind row s f e w.0 w.2)
    ∙ ap (λ (ks : List Kind). w.0 ∷ ks) (values_kinds row s f es w.1 w.3) ∙ w.4

-- ---- a map of a map

merged_values : (fs : List Expr) (t : List Kind) (row : Row) (es gs : List Expr) (u : List Kind)
    → all_kinds (map (kind_in t) es) ≡ Some u → exprs_changed (expr_in fs) es ≡ Some gs
    → values_of es (values_of fs row) ≡ values_of gs row
merged_values fs t row [] gs u h g =
    let none : [] ≡ gs = cc in ap (λ (xs : List Expr). values_of xs row) none
merged_values fs t row (e ∷ es) gs u h g =
    let w = all_kinds-cons (kind_in t e) (map (kind_in t) es) u h in
    let v = both_are_there ◌∷◌ (expr_changed (expr_in fs) e) (exprs_changed (expr_in fs) es) gs
    g in
    ap (λ (x : Value). x ∷ values_of es (values_of fs row))
    (sym (changed_value (expr_in fs) t (values_of fs row) row
    (λ i l x p. value_at fs row i x p) e v.0 w.0 w.2 v.2))
    ∙ ap (λ (xs : Row). value_of v.0 row ∷ xs) (merged_values fs t row es v.1 w.1 w.3 v.3)
    ∙ ap (λ (xs : List Expr). values_of xs row) v.4

pub map-map : {A B C : Type 0} (f : A → B) (g : B → C) (h : A → C) → ((x : A) → g (f x) ≡ h x)
    → (xs : List A) → map g (map f xs) ≡ map h xs
map-map f g h e [] = refl
map-map f g h e (x ∷ xs) = rw (e x) (ap (λ ys. h x ∷ ys) (map-map f g h e xs))

module _ (ss : List (List Kind)) where
  pub map_merge_alike : (es fs gs : List Expr) (a : Plan)
      → exprs_changed (expr_in fs) es ≡ Some gs
      → Alike ss (Map es (Map fs a)) (Map gs a)
  map_merge_alike es fs gs a h t u =
      let outer = map_under ss es (Map fs a) t in
      let inner = map_under ss fs a (map_typed ss es (Map fs a) t) in
      let whole = map_under ss gs a u in
      let middle : outer.below_kinds ≡ inner.schema = some_schema (sym outer.below
      ∙ inner.whole_is) in
      let below : inner.below_kinds ≡ whole.below_kinds = some_schema (sym inner.below
      ∙ whole.below) in
      let typed = (map_is es outer.below_kinds outer.schema outer.typed).0 in
      let agree : (row : Row) → values_of es (values_of fs row) ≡ values_of gs row =
      λ row. merged_values fs outer.below_kinds row es gs outer.schema typed h in
      let row = sample inner.below_kinds in
      let fits = sample_fits inner.below_kinds in
      let mid = values_kinds row inner.below_kinds fits fs inner.schema
      (map_is fs inner.below_kinds inner.schema inner.typed).0 in
      let left = values_kinds (values_of fs row) outer.below_kinds (mid ∙ sym middle) es
      outer.schema typed in
      let right = values_kinds row whole.below_kinds (fits ∙ below) gs whole.schema
      (map_is gs whole.below_kinds whole.schema whole.typed).0 in
      record {
        kinds = outer.whole_is ∙ ap Some (sym left ∙ ap (map kind_of) (agree row) ∙ right)
            ∙ sym whole.whole_is;
        answers = λ bags fit. same_answers
            (alg-Map es (Map fs a) bags ∙ ap (map (values_of es)) (alg-Map fs a bags))
            (alg-Map gs a bags)
            (same_rows (map-map (values_of fs) (values_of es) (values_of gs) agree
            (alg a bags)));
      }

  -- ---- each row of a map once

  pub distinct_map_alike : (es : List Expr) (a : Plan)
      → Alike ss (Distinct (Map es (Distinct a))) (Distinct (Map es a))
  distinct_map_alike es a t u = record {
    kinds = distinct_keeps ss (Map es (Distinct a))
        ∙ map_kinds_of ss es (Distinct a) a (distinct_keeps ss a)
        ∙ sym (distinct_keeps ss (Map es a));
    answers = λ bags fit. same_answers
        (alg-Distinct (Map es (Distinct a)) bags ∙ ap distinct (alg-Map es (Distinct a) bags
        ∙ ap (map (values_of es)) (alg-Distinct a bags)))
        (alg-Distinct (Map es a) bags ∙ ap distinct (alg-Map es a bags))
        (record {
          counts = λ r. count-once r (map (values_of es) (distinct (alg a bags)))
              ∙ made-distinct (λ xs. any_once (count r (map (values_of es) xs)))
              (once_made (values_of es) r) (alg a bags)
              ∙ sym (count-once r (map (values_of es) (alg a bags)));
        });
  }

  -- ---- the rows of groups differ

  tails_same : (xs ys us vs : Row) → length us ≡ length vs → xs ++ us ≡ ys ++ vs → xs ≡ ys
  tails_same [] [] us vs n e = refl
  tails_same [] (y ∷ ys) us vs n e =
      absurd (omega (arith, n, ap length e, length-append ys vs))
  tails_same (x ∷ xs) [] us vs n e =
      absurd (omega (arith, n, ap length e, length-append xs us))
  tails_same (x ∷ xs) (y ∷ ys) us vs n e =
      let head : x ≡ y = cc in
      let tail : xs ++ us ≡ ys ++ vs = cc in
      ap (λ (z : Value). z ∷ xs) head ∙ ap (λ (zs : Row). y ∷ zs) (tails_same xs ys us vs n tail)

  apart_keys : (k : List ℕ) (g : List Agg) (rows : List Row) (x y : Row)
      → group_row k g rows x ≡ group_row k g rows y → x ≡ y
  apart_keys k g rows x y e =
      tails_same x y (map (aggregate (with_key k rows x)) g) (map (aggregate (with_key k rows y)) g)
      (length-map g (aggregate (with_key k rows x))
      ∙ sym (length-map g (aggregate (with_key k rows y)))) e

  groups_differ : (k : List ℕ) (g : List Agg) (rows : List Row) (t : Row)
      → count t (grouped k g rows) ≤ 1
  unfolding grouped
  groups_differ k g rows t = at_most_one (group_row k g rows) (apart_keys k g rows) t
      (map (at_columns k) rows)

  pub distinct_group_alike : (k : List ℕ) (g : List Agg) (a : Plan)
      → Alike ss (Distinct (Group k g a)) (Group k g a)
  distinct_group_alike k g a t u = record {
    kinds = distinct_keeps ss (Group k g a);
    answers = λ bags fit. same_answers
        (alg-Distinct (Group k g a) bags ∙ ap distinct (alg-Group k g a bags))
        (alg-Group k g a bags)
        (record {
          counts = λ r. count-once r (grouped k g (alg a bags))
              ∙ once_at_most (count r (grouped k g (alg a bags)))
              (groups_differ k g (alg a bags) r);
        });
  }

  -- ---- least and greatest values of each row once

  same_value : (b : Bool) (v : Value) → cond b v v ≡ v
  same_value true v = refl
  same_value false v = refl

  least_copies : (c : ℕ) (x : Row) (xs : List Row)
      → aggregate (x ∷ x ∷ xs) (Min c) ≡ aggregate (x ∷ xs) (Min c)
  least_copies c x xs = ap (λ (v : Value). fold smaller v (values_at c xs))
      (same_value (is_lt (value_cmp (column x c) (column x c))) (column x c))

  greatest_copies : (c : ℕ) (x : Row) (xs : List Row)
      → aggregate (x ∷ x ∷ xs) (Max c) ≡ aggregate (x ∷ xs) (Max c)
  greatest_copies c x xs = ap (λ (v : Value). fold greater v (values_at c xs))
      (same_value (is_lt (value_cmp (column x c) (column x c))) (column x c))

  extreme_once : (g : Agg) → is_extreme g ≡ true → (xs : List Row)
      → aggregate (distinct xs) g ≡ aggregate xs g
  extreme_once (Min c) h xs = made-distinct (λ ys. aggregate ys (Min c))
      (record { order = λ p. aggregate-Perm (Min c) p; copies = least_copies c }) xs
  extreme_once (Max c) h xs = made-distinct (λ ys. aggregate ys (Max c))
      (record { order = λ p. aggregate-Perm (Max c) p; copies = greatest_copies c }) xs
  extreme_once Count h xs = cc
  extreme_once (Sum c) h xs = cc
  extreme_once (Avg c) h xs = cc

  both_hold : (x y : Bool) → (x && y) ≡ true → (x ≡ true) × (y ≡ true)
  both_hold true true h = (refl, refl)
  both_hold true false h = cc
  both_hold false y h = cc

  extremes_once : (g : List Agg) → all_extremes g ≡ true → (xs : List Row)
      → map (aggregate (distinct xs)) g ≡ map (aggregate xs) g
  extremes_once [] h xs = refl
  extremes_once (a ∷ g) h xs =
      let w = both_hold (is_extreme a) (all_extremes g) h in
      ap (λ (v : Value). v ∷ map (aggregate (distinct xs)) g) (extreme_once a w.0 xs)
      ∙ ap (λ (vs : Row). aggregate xs a ∷ vs) (extremes_once g w.1 xs)

  group_row_once : (k : List ℕ) (g : List Agg) → all_extremes g ≡ true → (xs : List Row) (key : Row)
      → group_row k g (distinct xs) key ≡ group_row k g xs key
  group_row_once k g h xs key =
      let test : Row → Bool = λ row. tuple_eq (at_columns k row) key in
      ap (λ (vs : Row). key ++ vs)
      (ap (λ (ys : List Row). map (aggregate ys) g) (sym (distinct-filter test xs))
      ∙ extremes_once g h (filter test xs))

  map_same : {A B : Type 0} (f g : A → B) → ((x : A) → f x ≡ g x) → (xs : List A)
      → map f xs ≡ map g xs
  map_same f g h [] = refl
  map_same f g h (x ∷ xs) = rw (h x) (ap (λ ys. g x ∷ ys) (map_same f g h xs))

  groups_once : (k : List ℕ) (g : List Agg) → all_extremes g ≡ true → (xs : List Row)
      → SameBag (grouped k g (distinct xs)) (grouped k g xs)
  unfolding grouped
  groups_once k g h xs =
      SameBag-trans
      (same_rows (map_same (group_row k g (distinct xs)) (group_row k g xs)
      (group_row_once k g h xs) (distinct (map (at_columns k) (distinct xs)))))
      (SameBag-map (group_row k g xs) (record {
        counts = λ r. count-once r (map (at_columns k) (distinct xs))
            ∙ made-distinct (λ ys. any_once (count r (map (at_columns k) ys)))
            (once_made (at_columns k) r) xs
            ∙ sym (count-once r (map (at_columns k) xs));
      }))

  pub group_distinct_alike : (k : List ℕ) (g : List Agg) (a : Plan) → all_extremes g ≡ true
      → Alike ss (Group k g (Distinct a)) (Group k g a)
  group_distinct_alike k g a h t u = record {
    kinds = group_kinds_of ss k g (Distinct a) a (distinct_keeps ss a);
    answers = λ bags fit. same_answers
        (alg-Group k g (Distinct a) bags ∙ ap (grouped k g) (alg-Distinct a bags))
        (alg-Group k g a bags) (groups_once k g h (alg a bags));
  }
