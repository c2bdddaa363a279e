-- The two sides of each rule that moves filters mean the same.
use Rattle.std.proofs.Common.{◌≡◌, ℕ, ◌+◌, ◌-◌, Bool, true, false, ◌&&◌, cond, List, [], ◌∷◌, ◌++◌}
use Rattle.std.proofs.Common.{map}
use Rattle.std.proofs.Common.{refl, sym, ap, ◌∙◌, subst, arith, Option, Some, None, slice_get}
use Rattle.std.specs.Prelude.{nat_lt, unwrap_or}
use Rattle.std.specs.List.{filter}
use Rattle.std.specs.Option.{option_map}
use Rattle.std.proofs.lemmas.List.Elements.{filter-append}
use Rattle.std.proofs.lemmas.Option.{slice_get-map}
use Rattle.pipes_tuple.specs.declared.value.Kind.{Kind}
use Rattle.pipes_tuple.specs.declared.value.Kind.TheVariants as kind
use Rattle.pipes_tuple.specs.declared.value.Value.{Value}
use Rattle.pipes_tuple.specs.Bag.{count, SameBag}
use Rattle.pipes_expr.specs.declared.expr.Expr.{Expr}
use Rattle.pipes_expr.specs.declared.expr.Expr.TheVariants.{Binary}
use Rattle.pipes_expr.specs.declared.op.Op.TheVariants.{And}
use Rattle.pipes_expr.specs.ExprValue.{Row, column, is_true, no_value, passes, value_of}
use Rattle.pipes_expr.specs.ExprKind.{expr_kind}
use Rattle.pipes_expr.proofs.ExprEquations.{value_of-Binary, value_of-Literal}
use Rattle.pipes_plan.specs.declared.plan.Plan.{Plan}
use Rattle.pipes_plan.specs.declared.plan.Plan.TheVariants.{Filter, Map, Union, Distinct, Minus}
use Rattle.pipes_plan.specs.Algebra.{alg}
use Rattle.pipes_relation.specs.Relations.{values_of, distinct, minus}
use Rattle.pipes_plan.specs.PlanKinds.{plan_kinds, IsTyped}
use Rattle.pipes_plan.proofs.PlanEquations.{alg-Filter, alg-Map, alg-Union, alg-Distinct, alg-Minus}
use Rattle.pipes_plan.proofs.SameAnswers.{count-minus}
use Rattle.pipes_rewrite.specs.Changes.{expr_in, expr_changed, truth}
use Rattle.pipes_rewrite.specs.SameMeaning.{SameMeaning, Alike}
use Rattle.pipes_rewrite.proofs.ChangedValues.{Places, changed_value}
use Rattle.pipes_rule_laws.proofs.RowCounts.{any_once, count-once, count-filter}
use Rattle.pipes_rule_laws.proofs.Same.{same_rows, same_answers, both_equal, filter_keeps}
use Rattle.pipes_rule_laws.proofs.Same.{filter_typed}
use Rattle.pipes_rule_laws.proofs.Same.{distinct_keeps, distinct_typed, union_keeps}
use Rattle.pipes_rule_laws.proofs.Same.{union_left_typed}
use Rattle.pipes_rule_laws.proofs.Same.{minus_keeps, minus_left_typed, map_kinds_of, map_typed}
use Rattle.pipes_rule_laws.proofs.Same.{filter_flag}

-- ---- two filters

-- a test after a test
kept : {X : Type 0} (p q : X → Bool) (x : X) (xs ys : List X) (b c : Bool) → b ≡ q x → c ≡ p x
    → filter p xs ≡ ys → filter p (cond b (x ∷ xs) xs) ≡ cond (c && b) (x ∷ ys) ys
kept p q x xs ys true true e f h = rw (← f, h)
kept p q x xs ys true false e f h = rw (← f, h)
kept p q x xs ys false true e f h = h
kept p q x xs ys false false e f h = h

pub filter-filter : {X : Type 0} (p q r : X → Bool) → ((x : X) → r x ≡ (p x && q x))
    → (xs : List X) → filter p (filter q xs) ≡ filter r xs
filter-filter p q r h [] = refl
filter-filter p q r h (x ∷ xs) = rw (h x) (kept p q x (filter q xs) (filter r xs) (q x) (p x) refl
    refl (filter-filter p q r h xs))

both_ways : (a b : Bool) → (a && b) ≡ (b && a)
both_ways true true = refl
both_ways true false = refl
both_ways false true = refl
both_ways false false = refl

pub filter_exchange : {X : Type 0} (p q : X → Bool) (xs : List X)
    → filter p (filter q xs) ≡ filter q (filter p xs)
filter_exchange p q xs = filter-filter p q (λ x. p x && q x) (λ x. refl) xs
    ∙ sym (filter-filter q p (λ x. p x && q x) (λ x. both_ways (p x) (q x)) xs)

pub passes-And : (p q : Expr) (row : Row) → passes (Binary And p q) row
    ≡ (passes p row && passes q row)
passes-And p q row = ap is_true (value_of-Binary And p q row)

-- ---- a filter over a map

mapped_kept : (f : Row → Row) (x : Row) (xs : List Row) (b : Bool) (ys : List Row)
    → ys ≡ map f xs → cond b (f x ∷ ys) ys ≡ map f (cond b (x ∷ xs) xs)
mapped_kept f x xs true ys e = ap (λ (zs : List Row). f x ∷ zs) e
mapped_kept f x xs false ys e = e

pub filter-map : (p q : Row → Bool) (f : Row → Row) → ((x : Row) → q x ≡ p (f x))
    → (xs : List Row) → filter p (map f xs) ≡ map f (filter q xs)
filter-map p q f h [] = refl
filter-map p q f h (x ∷ xs) = rw (h x) (mapped_kept f x (filter q xs) (p (f x))
    (filter p (map f xs)) (filter-map p q f h xs))

-- a column of the row of values is the value of the expression at its place
pub value_at : (es : List Expr) (row : Row) (i : ℕ) (x : Expr) → slice_get es i ≡ Some x
    → value_of x row ≡ column (values_of es row) i
value_at es row i x h =
    sym (ap (λ o. unwrap_or o no_value) (slice_get-map (λ e. value_of e row) es i
    ∙ ap (option_map (λ e. value_of e row)) h))

module _ (ss : List (List Kind)) where
  pub merge_alike : (p q : Expr) (a : Plan)
      → Alike ss (Filter p (Filter q a)) (Filter (Binary And p q) a)
  merge_alike p q a t u = record {
    kinds = filter_keeps ss p (Filter q a) t
        ∙ filter_keeps ss q a (filter_typed ss p (Filter q a) t)
        ∙ sym (filter_keeps ss (Binary And p q) a u);
    answers = λ bags fit. same_answers
        (alg-Filter p (Filter q a) bags ∙ ap (filter (passes p)) (alg-Filter q a bags))
        (alg-Filter (Binary And p q) a bags)
        (same_rows (filter-filter (passes p) (passes q) (passes (Binary And p q)) (passes-And p q)
        (alg a bags)));
  }

  pub swap_alike : (p q : Expr) (a : Plan)
      → Alike ss (Filter p (Filter q a)) (Filter q (Filter p a))
  swap_alike p q a t u = record {
    kinds = filter_keeps ss p (Filter q a) t
        ∙ filter_keeps ss q a (filter_typed ss p (Filter q a) t)
        ∙ sym (filter_keeps ss p a (filter_typed ss q (Filter p a) u))
        ∙ sym (filter_keeps ss q (Filter p a) u);
    answers = λ bags fit. same_answers
        (alg-Filter p (Filter q a) bags ∙ ap (filter (passes p)) (alg-Filter q a bags))
        (alg-Filter q (Filter p a) bags ∙ ap (filter (passes q)) (alg-Filter p a bags))
        (same_rows (filter_exchange (passes p) (passes q) (alg a bags)));
  }

  -- ---- filters over the rows of both sides

  pub filter_union_alike : (p : Expr) (a b : Plan)
      → Alike ss (Filter p (Union a b)) (Union (Filter p a) (Filter p b))
  filter_union_alike p a b t u = record {
    kinds = filter_keeps ss p (Union a b) t
        ∙ union_keeps ss a b (filter_typed ss p (Union a b) t)
        ∙ sym (filter_keeps ss p a (union_left_typed ss (Filter p a) (Filter p b) u))
        ∙ sym (union_keeps ss (Filter p a) (Filter p b) u);
    answers = λ bags fit. same_answers
        (alg-Filter p (Union a b) bags ∙ ap (filter (passes p)) (alg-Union a b bags))
        (alg-Union (Filter p a) (Filter p b) bags ∙ both_equal ◌++◌ (alg-Filter p a bags)
        (alg-Filter p b bags))
        (same_rows (filter-append (passes p) (alg a bags) (alg b bags)));
  }

  filtered_once : (b : Bool) (n : ℕ) → cond b (any_once n) 0 ≡ any_once (cond b n 0)
  filtered_once true n = refl
  filtered_once false n = refl

  pub filter_distinct_alike : (p : Expr) (a : Plan)
      → Alike ss (Filter p (Distinct a)) (Distinct (Filter p a))
  filter_distinct_alike p a t u = record {
    kinds = filter_keeps ss p (Distinct a) t ∙ distinct_keeps ss a
        ∙ sym (filter_keeps ss p a (distinct_typed ss (Filter p a) u))
        ∙ sym (distinct_keeps ss (Filter p a));
    answers = λ bags fit. same_answers
        (alg-Filter p (Distinct a) bags ∙ ap (filter (passes p)) (alg-Distinct a bags))
        (alg-Distinct (Filter p a) bags ∙ ap distinct (alg-Filter p a bags))
        (record {
          counts = λ r. count-filter (passes p) r (distinct (alg a bags))
              ∙ ap (λ n. cond (passes p r) n 0) (count-once r (alg a bags))
              ∙ filtered_once (passes p r) (count r (alg a bags))
              ∙ ap any_once (sym (count-filter (passes p) r (alg a bags)))
              ∙ sym (count-once r (filter (passes p) (alg a bags)));
        });
  }

  filtered_less : (b : Bool) (m n : ℕ) → cond b (m - n) 0 ≡ cond b m 0 - cond b n 0
  filtered_less true m n = refl
  filtered_less false m n = refl

  pub filter_minus_alike : (p : Expr) (a b : Plan)
      → Alike ss (Filter p (Minus a b)) (Minus (Filter p a) (Filter p b))
  filter_minus_alike p a b t u = record {
    kinds = filter_keeps ss p (Minus a b) t
        ∙ minus_keeps ss a b (filter_typed ss p (Minus a b) t)
        ∙ sym (filter_keeps ss p a (minus_left_typed ss (Filter p a) (Filter p b) u))
        ∙ sym (minus_keeps ss (Filter p a) (Filter p b) u);
    answers = λ bags fit. same_answers
        (alg-Filter p (Minus a b) bags ∙ ap (filter (passes p)) (alg-Minus a b bags))
        (alg-Minus (Filter p a) (Filter p b) bags ∙ both_equal minus (alg-Filter p a bags)
        (alg-Filter p b bags))
        (record {
          counts = λ r. count-filter (passes p) r (minus (alg a bags) (alg b bags))
              ∙ ap (λ n. cond (passes p r) n 0) (count-minus r (alg a bags) (alg b bags))
              ∙ filtered_less (passes p r) (count r (alg a bags)) (count r (alg b bags))
              ∙ rw (
                ← count-filter (passes p) r (alg a bags),
                ← count-filter (passes p) r (alg b bags),
              )
              (sym (count-minus r (filter (passes p) (alg a bags))
              (filter (passes p) (alg b bags))));
        });
  }

  -- ---- a filter over a map

  pub filter_map_alike : (p q : Expr) (es : List Expr) (a : Plan)
      → expr_changed (expr_in es) p ≡ Some q
      → Alike ss (Filter p (Map es a)) (Map es (Filter q a))
  filter_map_alike p q es a h t u =
      let m = filter_typed ss p (Map es a) t in
      record {
        kinds = filter_keeps ss p (Map es a) t
            ∙ map_kinds_of ss es a (Filter q a) (sym (filter_keeps ss q a
            (map_typed ss es (Filter q a) u)));
        answers = λ bags fit. same_answers
            (alg-Filter p (Map es a) bags ∙ ap (filter (passes p)) (alg-Map es a bags))
            (alg-Map es (Filter q a) bags ∙ ap (map (values_of es)) (alg-Filter q a bags))
            (same_rows (filter-map (passes p) (passes q) (values_of es)
            (λ row. ap is_true (changed_value (expr_in es) m.schema (values_of es row) row
            (λ i l x g. value_at es row i x g) p q kind.Flag
            (filter_flag ss p (Map es a) m.schema m.is t) h))
            (alg a bags)));
      }

  -- ---- a filter that all rows pass

  all_pass : (test : Row → Bool) → ((row : Row) → test row ≡ true) → (rows : List Row)
      → filter test rows ≡ rows
  all_pass test h [] = refl
  all_pass test h (row ∷ rows) = rw (h row) (ap (λ (zs : List Row). row ∷ zs)
      (all_pass test h rows))

  pub filter_true_alike : (a : Plan) → Alike ss (Filter truth a) a
  filter_true_alike a t u = record {
    kinds = filter_keeps ss truth a t;
    answers = λ bags fit. same_answers (alg-Filter truth a bags) refl
        (same_rows (all_pass (passes truth) (λ row. ap is_true (value_of-Literal _ row))
        (alg a bags)));
  }
