-- A filter on the key of groups is one of the rows that are grouped.
use Rattle.std.proofs.Common.{◌≡◌, ℕ, ◌+◌, ◌<◌, ◌≤◌, Bool, true, false, cond, List, [], ◌∷◌, ◌++◌}
use Rattle.std.proofs.Common.{map, length, refl, sym, ap, ◌∙◌, subst, arith, Option, Some, None}
use Rattle.std.proofs.Common.{slice_get, unwrap_or, get_or}
use Rattle.std.specs.List.{All, filter}
use Rattle.std.specs.Option.{option_map}
use Rattle.std.proofs.Math.ListN.{length-map}
use Rattle.std.proofs.lemmas.List.Elements.{All-nil, All-cons, All-head, All-tail}
use Rattle.std.proofs.lemmas.Option.{slice_get-map, slice_get_within}
use Rattle.pipes_tuple.specs.declared.value.Value.{Value}
use Rattle.pipes_tuple.specs.declared.value.Kind.{Kind}
use Rattle.pipes_tuple.specs.declared.value.Kind.TheVariants as kind
use Rattle.pipes_tuple.specs.Kinds.{kind_of, Fits}
use Rattle.pipes_tuple.specs.Columns.{at_columns, HasColumns}
use Rattle.pipes_tuple.specs.Equal.{tuple_eq}
use Rattle.pipes_tuple.proofs.Columns.{at_columns-map}
use Rattle.pipes_tuple.proofs.Equality.{tuple_eq-Decides}
use Rattle.pipes_expr.specs.declared.expr.Expr.{Expr}
use Rattle.pipes_expr.specs.declared.expr.Expr.TheVariants.{Col}
use Rattle.pipes_expr.specs.ExprValue.{Row, column, is_true, no_value, passes, value_of}
use Rattle.pipes_expr.specs.ExprKind.{expr_kind}
use Rattle.pipes_expr.proofs.ConcatenatedRows.{column_left}
use Rattle.pipes_expr.proofs.ExprEquations.{value_of-Col}
use Rattle.pipes_relation.specs.declared.lists.Agg.{Agg}
use Rattle.pipes_plan.specs.declared.plan.Plan.{Plan}
use Rattle.pipes_plan.specs.declared.plan.Plan.TheVariants.{Filter, Group}
use Rattle.pipes_relation.specs.Aggregate.{aggregate}
use Rattle.pipes_plan.specs.Algebra.{alg}
use Rattle.pipes_relation.specs.Relations.{distinct, with_key, group_row, grouped}
use Rattle.pipes_plan.specs.PlanKinds.{plan_kinds, IsTyped, all_kinds}
use Rattle.pipes_plan.proofs.PlanEquations.{alg-Filter, alg-Group}
use Rattle.pipes_plan.proofs.PlanTyped.{group_is, all_kinds-cons}
use Rattle.pipes_plan.proofs.AnswerFits.{answer_fits}
use Rattle.pipes_rewrite.specs.Changes.{column_in, expr_changed}
use Rattle.pipes_rewrite.specs.SameMeaning.{SameMeaning, Alike}
use Rattle.pipes_rewrite.proofs.ChangedValues.{Places, changed_value, is_there}
use Rattle.pipes_rule_laws.proofs.FilterSound.{filter_exchange, filter-map}
use Rattle.pipes_rule_laws.proofs.OnceEach.{distinct-filter}
use Rattle.pipes_rule_laws.proofs.Same.{same_rows, same_answers, filter_keeps, filter_typed}
use Rattle.pipes_rule_laws.proofs.Same.{filter_flag, group_kinds_of, group_typed, group_under}

-- ---- lists

passing_step : {A : Type 0} (test : A → Bool) (x : A) (xs : List A) (b : Bool) → b ≡ test x
    → All (λ y. test y ≡ true) xs → All (λ y. test y ≡ true) (cond b (x ∷ xs) xs)
passing_step test x xs true e a = All-cons (λ y. test y ≡ true) x xs (sym e) a
passing_step test x xs false e a = a

-- all that is kept passes
passing : {A : Type 0} (test : A → Bool) (xs : List A)
    → All (λ y. test y ≡ true) (filter test xs)
passing test [] = All-nil (λ y. test y ≡ true)
passing test (x ∷ xs) = passing_step test x (filter test xs) (test x) refl (passing test xs)

map_each_all : {A B : Type 0} (P : A → Type 0) (f g : A → B) → ((x : A) → P x → f x ≡ g x)
    → (xs : List A) → All P xs → map f xs ≡ map g xs
map_each_all P f g h [] a = refl
map_each_all P f g h (x ∷ xs) a = rw (h x (All-head P x xs a)) (ap (λ ys. g x ∷ ys)
    (map_each_all P f g h xs (All-tail P x xs a)))

pub filter_each_all : {A : Type 0} (P : A → Type 0) (f g : A → Bool)
    → ((x : A) → P x → f x ≡ g x) → (xs : List A) → All P xs → filter f xs ≡ filter g xs
filter_each_all P f g h [] a = refl
filter_each_all P f g h (x ∷ xs) a = rw (h x (All-head P x xs a)) (ap (λ ys. cond (g x) (x ∷ ys) ys)
    (filter_each_all P f g h xs (All-tail P x xs a)))

implied_step : {A : Type 0} (test q : A → Bool) (x : A) (xs ys : List A) (b c : Bool) → b ≡ q x
    → c ≡ test x → (test x ≡ true → q x ≡ true) → filter test xs ≡ ys
    → filter test (cond b (x ∷ xs) xs) ≡ cond c (x ∷ ys) ys
implied_step test q x xs ys true true e f i h = rw (← f, h)
implied_step test q x xs ys true false e f i h = rw (← f, h)
implied_step test q x xs ys false true e f i h = let w : false ≡ true = e ∙ i (sym f) in cc
implied_step test q x xs ys false false e f i h = h

-- a test that implies another
filter_implied : {A : Type 0} (test q : A → Bool) (xs : List A)
    → All (λ x. test x ≡ true → q x ≡ true) xs → filter test (filter q xs) ≡ filter test xs
filter_implied test q [] a = refl
filter_implied test q (x ∷ xs) a =
    implied_step test q x (filter q xs) (filter test xs) (q x) (test x) refl refl
    (All-head (λ x. test x ≡ true → q x ≡ true) x xs a)
    (filter_implied test q xs (All-tail (λ x. test x ≡ true → q x ≡ true) x xs a))

each_has : (P Q : Row → Type 0) → ((x : Row) → P x → Q x) → (xs : List Row) → All P xs → All Q xs
each_has P Q h xs a = λ i d l. h (get_or xs i d) (a i d l)

-- ---- columns of keys

some_column : (s : List Kind) (k : List ℕ) (ks : List Kind) (row : Row) → Fits row s
    → all_kinds (map (slice_get s) k) ≡ Some ks → HasColumns k row
some_column s [] ks row f h = All-nil (λ column. column < length row)
some_column s (c ∷ k) ks row f h =
    let w = all_kinds-cons (slice_get s c) (map (slice_get s) k) ks h in
    All-cons (λ column. column < length row) c k
    (omega (arith, slice_get_within s c w.0 w.2, ap length f, length-map row kind_of))
    (some_column s k w.1 row f w.3)

key_places : (k : List ℕ) (t : List Kind) (row rest : Row) → HasColumns k row
    → Places (column_in k) t (at_columns k row ++ rest) row
key_places k t row rest has i l x h =
    let w = is_there Col (slice_get k i) x h in
    let list = at_columns-map no_value k row has in
    let within : i < length (at_columns k row) = omega (
      arith,
      slice_get_within k i w.0 w.1,
      ap length list,
      length-map k (λ c. unwrap_or (slice_get row c) no_value),
    ) in
    ap (λ z. value_of z row) (sym w.2) ∙ value_of-Col w.0 row
    ∙ sym (ap (λ o. unwrap_or o no_value) (slice_get-map (column row) k i
    ∙ ap (option_map (column row)) w.1))
    ∙ sym (ap (λ (z : Row). column z i) list)
    ∙ sym (column_left (at_columns k row) rest i within)

-- ---- groups

module _ (k : List ℕ) (g : List Agg) (p q : Row → Bool) (P : Row → Type 0)
    (agree : (row rest : Row) → P row → p (at_columns k row ++ rest) ≡ q row) where
  same_keys : (rows : List Row) → All P rows
      → filter (λ key. p (group_row k g rows key)) (distinct (map (at_columns k) rows))
      ≡ distinct (map (at_columns k) (filter q rows))
  same_keys rows a =
      let test : Row → Bool = λ key. p (group_row k g rows key) in
      sym (distinct-filter test (map (at_columns k) rows))
      ∙ ap distinct (filter-map test (λ row. test (at_columns k row)) (at_columns k)
      (λ row. refl) rows ∙ ap (map (at_columns k))
      (filter_each_all P (λ row. test (at_columns k row)) q
      (λ row h. agree row (map (aggregate (with_key k rows (at_columns k row))) g) h) rows a))

  -- all rows with a key that passes are kept
  same_group : (rows : List Row) → All P rows → (key : Row) → p (group_row k g rows key) ≡ true
      → group_row k g rows key ≡ group_row k g (filter q rows) key
  same_group rows a key h =
      let test : Row → Bool = λ row. tuple_eq (at_columns k row) key in
      let rest = map (aggregate (with_key k rows key)) g in
      let implied : All (λ row. test row ≡ true → q row ≡ true) rows =
      each_has P (λ row. test row ≡ true → q row ≡ true)
      (λ row held e. let same = (tuple_eq-Decides (at_columns k row) key).0 e in
      sym (agree row rest held) ∙ ap (λ (z : Row). p (z ++ rest)) same ∙ h) rows a in
      ap (λ (ys : List Row). key ++ map (aggregate ys) g)
      (sym (filter_implied test q rows implied))

  pub group_filtered : (rows : List Row) → All P rows
      → filter p (grouped k g rows) ≡ grouped k g (filter q rows)
  unfolding grouped
  group_filtered rows a =
      let test : Row → Bool = λ key. p (group_row k g rows key) in
      let keys = distinct (map (at_columns k) rows) in
      filter-map p test (group_row k g rows) (λ key. refl) keys
      ∙ map_each_all (λ key. test key ≡ true) (group_row k g rows) (group_row k g (filter q rows))
      (λ key h. same_group rows a key h) (filter test keys) (passing test keys)
      ∙ ap (map (group_row k g (filter q rows))) (same_keys rows a)

module _ (ss : List (List Kind)) where
  pub filter_group_alike : (k : List ℕ) (g : List Agg) (p q : Expr) (a : Plan)
      → expr_changed (column_in k) p ≡ Some q
      → Alike ss (Filter p (Group k g a)) (Group k g (Filter q a))
  filter_group_alike k g p q a h t u =
      let v = group_under ss k g a (filter_typed ss p (Group k g a) t) in
      let w = (group_is k g v.below_kinds v.schema v.typed).0 in
      let flag = filter_flag ss p (Group k g a) v.schema v.whole_is t in
      record {
        kinds = filter_keeps ss p (Group k g a) t
            ∙ group_kinds_of ss k g a (Filter q a) (sym (filter_keeps ss q a
            (group_typed ss k g (Filter q a) u)));
        answers = λ bags fit. same_answers
            (alg-Filter p (Group k g a) bags ∙ ap (filter (passes p)) (alg-Group k g a bags))
            (alg-Group k g (Filter q a) bags ∙ ap (grouped k g) (alg-Filter q a bags))
            (same_rows (group_filtered k g (passes p) (passes q) (λ row. Fits row v.below_kinds)
            (λ row rest f. sym (ap is_true (changed_value (column_in k) v.schema
            (at_columns k row ++ rest) row (key_places k v.schema row rest
            (some_column v.below_kinds k w.0 row f w.2)) p q kind.Flag flag h)))
            (alg a bags) (answer_fits ss bags fit a v.below_kinds v.below)));
      }
