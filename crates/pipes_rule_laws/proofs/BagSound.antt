-- The two sides of each rule of unions, differences, distinct rows, maps and groups mean the same.
use Rattle.std.proofs.Common.{◌≡◌, ℕ, ◌+◌, ◌-◌, ◌<◌, Bool, true, false, ◌&&◌, ◌||◌, cond, List, []}
use Rattle.std.proofs.Common.{◌∷◌, ◌++◌, map, refl, sym, ap, ◌∙◌, subst, arith, append_assoc}
use Rattle.std.proofs.Common.{Option}
use Rattle.std.proofs.Common.{Some, None, slice_get, unwrap_or}
use Rattle.std.specs.Prelude.{nat_lt}
use Rattle.std.specs.Option.{option_map}
use Rattle.std.proofs.lemmas.Bool.Decides.{nat_tests}
use Rattle.std.proofs.lemmas.List.{map-append}
use Rattle.std.proofs.lemmas.Option.{slice_get-map}
use Rattle.pipes_tuple.specs.declared.value.Kind.{Kind}
use Rattle.pipes_tuple.specs.Bag.{count, SameBag}
use Rattle.pipes_tuple.specs.Equal.{tuple_eq}
use Rattle.pipes_tuple.proofs.Perm.{Perm-append_comm}
use Rattle.pipes_tuple.proofs.Bags.{SameBag-Perm, count-cons}
use Rattle.pipes_expr.specs.declared.expr.Expr.{Expr}
use Rattle.pipes_expr.specs.ExprValue.{Row, column, no_value, value_of}
use Rattle.pipes_expr.specs.ExprKind.{expr_kind, kind_in}
use Rattle.pipes_plan.specs.declared.plan.Plan.{Plan}
use Rattle.pipes_plan.specs.declared.plan.Plan.TheVariants.{Map, Union, Distinct, Minus}
use Rattle.pipes_plan.specs.Algebra.{alg}
use Rattle.pipes_relation.specs.Relations.{values_of, distinct, minus}
use Rattle.pipes_plan.specs.PlanKinds.{plan_kinds, IsTyped, all_kinds}
use Rattle.pipes_plan.proofs.PlanEquations.{alg-Map, alg-Union, alg-Distinct, alg-Minus}
use Rattle.pipes_plan.proofs.PlanTyped.{map_is, all_kinds-cons}
use Rattle.pipes_plan.proofs.SameAnswers.{count-minus}
use Rattle.pipes_rewrite.specs.Changes.{both_there, expr_in, expr_changed, exprs_changed}
use Rattle.pipes_rewrite.specs.SameMeaning.{SameMeaning, Alike}
use Rattle.pipes_rewrite.proofs.ChangedValues.{both_are_there, changed_value}
use Rattle.pipes_rule_laws.proofs.RowCounts.{any_once, count-once, count-append}
use Rattle.pipes_rule_laws.proofs.Same.{same_rows, same_answers, both_equal, distinct_keeps}
use Rattle.pipes_rule_laws.proofs.Same.{distinct_typed}
use Rattle.pipes_rule_laws.proofs.Same.{union_keeps, union_keeps_right, union_left_typed}
use Rattle.pipes_rule_laws.proofs.Same.{union_right_typed, minus_keeps, minus_left_typed}
use Rattle.pipes_rule_laws.proofs.Same.{map_kinds_of, map_typed, map_under}

once_of_sum : (m n : ℕ) → any_once (m + n) ≡ any_once (any_once m + any_once n)
once_of_sum m n = grind (arith, nat_tests)

-- ---- unions and differences

module _ (ss : List (List Kind)) where
  pub union_commute_alike : (a b : Plan) → Alike ss (Union a b) (Union b a)
  union_commute_alike a b t u = record {
    kinds = union_keeps ss a b t ∙ sym (union_keeps_right ss b a u);
    answers = λ bags fit. same_answers (alg-Union a b bags) (alg-Union b a bags)
        (SameBag-Perm (Perm-append_comm (alg a bags) (alg b bags)));
  }

  pub union_assoc_alike : (a b c : Plan)
      → Alike ss (Union (Union a b) c) (Union a (Union b c))
  union_assoc_alike a b c t u = record {
    kinds = union_keeps ss (Union a b) c t
        ∙ union_keeps ss a b (union_left_typed ss (Union a b) c t)
        ∙ sym (union_keeps ss a (Union b c) u);
    answers = λ bags fit. same_answers
        (alg-Union (Union a b) c bags ∙ ap (λ (xs : List Row). xs ++ alg c bags)
        (alg-Union a b bags))
        (alg-Union a (Union b c) bags ∙ ap (λ (xs : List Row). alg a bags ++ xs)
        (alg-Union b c bags))
        (same_rows (append_assoc (alg a bags) (alg b bags) (alg c bags)));
  }

  pub minus_assoc_alike : (a b c : Plan)
      → Alike ss (Minus (Minus a b) c) (Minus a (Union b c))
  minus_assoc_alike a b c t u = record {
    kinds = minus_keeps ss (Minus a b) c t
        ∙ minus_keeps ss a b (minus_left_typed ss (Minus a b) c t)
        ∙ sym (minus_keeps ss a (Union b c) u);
    answers = λ bags fit. same_answers
        (alg-Minus (Minus a b) c bags ∙ ap (λ (xs : List Row). minus xs (alg c bags))
        (alg-Minus a b bags))
        (alg-Minus a (Union b c) bags ∙ ap (minus (alg a bags)) (alg-Union b c bags))
        (record {
          counts = λ r. omega (
            arith,
            count-minus r (minus (alg a bags) (alg b bags)) (alg c bags),
            count-minus r (alg a bags) (alg b bags),
            count-minus r (alg a bags) (alg b bags ++ alg c bags),
            count-append r (alg b bags) (alg c bags),
          );
        });
  }

  -- ---- each row once

  once_twice : (n : ℕ) → any_once (any_once n) ≡ any_once n
  once_twice n = go (nat_lt 0 n) where
    go : (b : Bool) → any_once (cond b 1 0) ≡ cond b 1 0
    go true = refl
    go false = refl

  pub distinct_twice_alike : (a : Plan) → Alike ss (Distinct (Distinct a)) (Distinct a)
  distinct_twice_alike a t u = record {
    kinds = distinct_keeps ss (Distinct a);
    answers = λ bags fit. same_answers
        (alg-Distinct (Distinct a) bags ∙ ap distinct (alg-Distinct a bags))
        (alg-Distinct a bags)
        (record {
          counts = λ r. count-once r (distinct (alg a bags))
              ∙ ap any_once (count-once r (alg a bags)) ∙ once_twice (count r (alg a bags))
              ∙ sym (count-once r (alg a bags));
        });
  }

  pub distinct_union_alike : (a b : Plan)
      → Alike ss (Distinct (Union a b)) (Distinct (Union (Distinct a) (Distinct b)))
  distinct_union_alike a b t u = record {
    kinds = distinct_keeps ss (Union a b)
        ∙ union_keeps ss a b (distinct_typed ss (Union a b) t) ∙ sym (distinct_keeps ss a)
        ∙ sym (union_keeps ss (Distinct a) (Distinct b)
        (distinct_typed ss (Union (Distinct a) (Distinct b)) u))
        ∙ sym (distinct_keeps ss (Union (Distinct a) (Distinct b)));
    answers = λ bags fit. same_answers
        (alg-Distinct (Union a b) bags ∙ ap distinct (alg-Union a b bags))
        (alg-Distinct (Union (Distinct a) (Distinct b)) bags
        ∙ ap distinct (alg-Union (Distinct a) (Distinct b) bags
        ∙ both_equal ◌++◌ (alg-Distinct a bags) (alg-Distinct b bags)))
        (record {
          counts = λ r. count-once r (alg a bags ++ alg b bags)
              ∙ ap any_once (count-append r (alg a bags) (alg b bags))
              ∙ once_of_sum (count r (alg a bags)) (count r (alg b bags))
              ∙ ap any_once (sym (count-append r (distinct (alg a bags)) (distinct (alg b bags))
              ∙ rw (count-once r (alg a bags), count-once r (alg b bags))))
              ∙ sym (count-once r (distinct (alg a bags) ++ distinct (alg b bags)));
        });
  }

  -- ---- maps

  pub map_union_alike : (es : List Expr) (a b : Plan)
      → Alike ss (Map es (Union a b)) (Union (Map es a) (Map es b))
  map_union_alike es a b t u = record {
    kinds = map_kinds_of ss es (Union a b) a
        (union_keeps ss a b (map_typed ss es (Union a b) t))
        ∙ sym (union_keeps ss (Map es a) (Map es b) u);
    answers = λ bags fit. same_answers
        (alg-Map es (Union a b) bags ∙ ap (map (values_of es)) (alg-Union a b bags))
        (alg-Union (Map es a) (Map es b) bags ∙ both_equal ◌++◌ (alg-Map es a bags)
        (alg-Map es b bags))
        (same_rows (map-append (values_of es) (alg a bags) (alg b bags)));
  }
