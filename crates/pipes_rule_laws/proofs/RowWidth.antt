-- The width of a typed plan is that of its schema.
use Rattle.std.proofs.Common.{◌≡◌, ℕ, ◌+◌, ◌≤◌, List, [], ◌++◌, map, length, refl, sym, ap, ◌∙◌}
use Rattle.std.proofs.Common.{rules}
use Rattle.std.proofs.Common.{subst, arith, Option, Some, None, slice_get, unwrap_or, length-append}
use Rattle.std.proofs.Math.ListN.{length-map}
use Rattle.pipes_tuple.specs.declared.value.Kind.{Kind}
use Rattle.pipes_expr.specs.declared.expr.Expr.{Expr}
use Rattle.pipes_expr.specs.ExprKind.{kind_in}
use Rattle.pipes_relation.specs.declared.lists.Pair.{Pair}
use Rattle.pipes_relation.specs.declared.lists.Agg.{Agg}
use Rattle.pipes_plan.specs.declared.plan.Plan.{Plan, the_lemmas}
use Rattle.pipes_plan.specs.declared.plan.Plan.TheVariants.{Source, Filter, Map, Union, Join}
use Rattle.pipes_plan.specs.declared.plan.Plan.TheVariants.{Distinct, Group, Minus}
use Rattle.pipes_plan.specs.PlanKinds.{plan_kinds, agg_kind, join_kinds}
use Rattle.pipes_plan.proofs.NodeOutcome.{all_kinds-length}
use Rattle.pipes_plan.proofs.PlanInduction.{PlanCases, induct_plan}
use Rattle.pipes_plan.proofs.PlanEquations.{kinds-Source}
use Rattle.pipes_plan.proofs.PlanTyped.{map_is, group_is, join_is}
use Rattle.pipes_rewrite.specs.Changes.{sum_32}
use Rattle.pipes_rewrite.specs.Widths.{width}
use Rattle.pipes_rule_laws.proofs.Same.{some_schema, typed_as, filter_under, distinct_under}
use Rattle.pipes_rule_laws.proofs.Same.{union_under, minus_under, join_under, map_under}
use Rattle.pipes_rule_laws.proofs.Same.{group_under}

width-Source : (ss : List (List Kind)) (i : ℕ)
    → width ss (Source i) ≡ length (unwrap_or (slice_get ss i) [])
width-Source ss i = search (rules, the_lemmas)

width-Filter : (ss : List (List Kind)) (p : Expr) (a : Plan) → width ss (Filter p a) ≡ width ss a
width-Filter ss p a = search (rules, the_lemmas)

width-Map : (ss : List (List Kind)) (es : List Expr) (a : Plan)
    → width ss (Map es a) ≡ length es
width-Map ss es a = search (rules, the_lemmas)

width-Union : (ss : List (List Kind)) (a b : Plan) → width ss (Union a b) ≡ width ss a
width-Union ss a b = search (rules, the_lemmas)

width-Join : (ss : List (List Kind)) (k : List Pair) (c : Expr) (a b : Plan)
    → width ss (Join k c a b) ≡ sum_32 (width ss a) (width ss b)
width-Join ss k c a b = search (rules, the_lemmas)

width-Distinct : (ss : List (List Kind)) (a : Plan) → width ss (Distinct a) ≡ width ss a
width-Distinct ss a = search (rules, the_lemmas)

width-Group : (ss : List (List Kind)) (k : List ℕ) (g : List Agg) (a : Plan)
    → width ss (Group k g a) ≡ length k + length g
width-Group ss k g a = search (rules, the_lemmas)

width-Minus : (ss : List (List Kind)) (a b : Plan) → width ss (Minus a b) ≡ width ss a
width-Minus ss a b = search (rules, the_lemmas)

abbrev HasWidth : List (List Kind) → Plan → Type 0
HasWidth ss p = (s : List Kind) → plan_kinds p ss ≡ Some s → width ss p ≡ length s

source_case : (o : Option (List Kind)) (s : List Kind) → o ≡ Some s
    → length (unwrap_or o []) ≡ length s
source_case (Some t) s h = ap length (some_schema h)
source_case None s h = cc

pub sum_within : (m n : ℕ) → m + n ≤ 4294967295 → sum_32 m n ≡ m + n
sum_within m n h = omega arith

module _ (ss : List (List Kind)) where
  width_cases : PlanCases (HasWidth ss)
  width_cases = record {
    source = λ i s h. width-Source ss i ∙ source_case (slice_get ss i) s
        (sym (kinds-Source i ss) ∙ h);
    filter = λ p a f s h.
        let u = filter_under ss p a (typed_as ss (Filter p a) s h) in
        width-Filter ss p a ∙ f s (u.is ∙ sym u.whole_is ∙ h);
    mapped = λ es a f s h.
        let u = map_under ss es a (typed_as ss (Map es a) s h) in
        let w = map_is es u.below_kinds s (u.typed ∙ sym u.whole_is ∙ h) in
        width-Map ss es a ∙ sym (all_kinds-length (map (kind_in u.below_kinds) es) s w.0
        ∙ length-map es (kind_in u.below_kinds));
    union = λ a b f g s h.
        let u = union_under ss a b (typed_as ss (Union a b) s h) in
        width-Union ss a b ∙ f s (u.left ∙ sym u.whole_is ∙ h);
    join = λ k c a b f g s h.
        let u = join_under ss k c a b (typed_as ss (Join k c a b) s h) in
        let room = (join_is k c u.left_kinds u.right_kinds (u.left_kinds ++ u.right_kinds)
        u.typed).1 in
        width-Join ss k c a b ∙ rw (f u.left_kinds u.left, g u.right_kinds u.right)
        (sum_within (length u.left_kinds) (length u.right_kinds) (omega (arith, room)))
        ∙ sym (length-append u.left_kinds u.right_kinds)
        ∙ ap length (some_schema (sym u.whole_is ∙ h));
    distinct = λ a f s h.
        let u = distinct_under ss a (typed_as ss (Distinct a) s h) in
        width-Distinct ss a ∙ f s (u.is ∙ sym u.whole_is ∙ h);
    group = λ k g a f s h.
        let u = group_under ss k g a (typed_as ss (Group k g a) s h) in
        let p = (group_is k g u.below_kinds s (u.typed ∙ sym u.whole_is ∙ h)).0 in
        width-Group ss k g a ∙ omega (
          arith,
          ap length p.4,
          length-append p.0 p.1,
          all_kinds-length (map (slice_get u.below_kinds) k) p.0 p.2,
          all_kinds-length (map (agg_kind u.below_kinds) g) p.1 p.3,
          length-map k (slice_get u.below_kinds),
          length-map g (agg_kind u.below_kinds),
        );
    minus = λ a b f g s h.
        let u = minus_under ss a b (typed_as ss (Minus a b) s h) in
        width-Minus ss a b ∙ f s (u.left ∙ sym u.whole_is ∙ h);
  }

  pub width_is : (p : Plan) (s : List Kind) → plan_kinds p ss ≡ Some s → width ss p ≡ length s
  width_is p s h = induct_plan (HasWidth ss) width_cases p s h
