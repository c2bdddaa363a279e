-- Plans that mean the same below a node make the same meaning of the node.
use Rattle.std.proofs.Common.{◌≡◌, ℕ, List, ◌++◌, map, refl, sym, ap, ◌∙◌, subst}
use Rattle.std.specs.List.{filter}
use Rattle.pipes_tuple.specs.declared.value.Kind.{Kind}
use Rattle.pipes_tuple.proofs.Bags.{SameBag-refl, SameBag-trans, SameBag-append, SameBag-map}
use Rattle.pipes_tuple.proofs.Bags.{SameBag-filter}
use Rattle.pipes_expr.specs.declared.expr.Expr.{Expr}
use Rattle.pipes_expr.specs.ExprValue.{Row, passes}
use Rattle.pipes_relation.specs.declared.lists.Pair.{Pair}
use Rattle.pipes_relation.specs.declared.lists.Agg.{Agg}
use Rattle.pipes_plan.specs.declared.plan.Plan.{Plan}
use Rattle.pipes_plan.specs.declared.plan.Plan.TheVariants.{Filter, Map, Union, Join, Distinct}
use Rattle.pipes_plan.specs.declared.plan.Plan.TheVariants.{Group, Minus}
use Rattle.pipes_plan.specs.Algebra.{alg}
use Rattle.pipes_relation.specs.Relations.{values_of}
use Rattle.pipes_plan.proofs.PlanEquations.{alg-Filter, alg-Map, alg-Union, alg-Join, alg-Distinct}
use Rattle.pipes_plan.proofs.PlanEquations.{alg-Group, alg-Minus}
use Rattle.pipes_plan.proofs.SameAnswers.{SameBag-distinct, SameBag-minus, SameBag-joined}
use Rattle.pipes_plan.proofs.SameAnswers.{SameBag-grouped}
use Rattle.pipes_rewrite.specs.SameMeaning.{SameMeaning, Alike}
use Rattle.pipes_rule_laws.proofs.Same.{same_answers, filter_keeps, filter_typed, distinct_keeps}
use Rattle.pipes_rule_laws.proofs.Same.{distinct_typed, union_keeps, union_left_typed}
use Rattle.pipes_rule_laws.proofs.Same.{union_right_typed, minus_keeps, minus_left_typed}
use Rattle.pipes_rule_laws.proofs.Same.{minus_right_typed, map_kinds_of, map_typed, group_kinds_of}
use Rattle.pipes_rule_laws.proofs.Same.{group_typed}
use Rattle.pipes_rule_laws.proofs.JoinSound.{join_same_kinds, join_left_typed, join_right_typed}

module _ (ss : List (List Kind)) where
  pub meaning-refl : (a : Plan) → SameMeaning ss a a
  meaning-refl a = record { kinds = refl; answers = λ bags fit. SameBag-refl (alg a bags) }

  pub meaning-equal : (a b : Plan) → a ≡ b → SameMeaning ss a b
  meaning-equal a b e = subst (λ (z : Plan). SameMeaning ss a z) e (meaning-refl a)

  pub meaning-trans : (a b c : Plan) → SameMeaning ss a b → SameMeaning ss b c
      → SameMeaning ss a c
  meaning-trans a b c s r = record {
    kinds = s.kinds ∙ r.kinds;
    answers = λ bags fit. SameBag-trans (s.answers bags fit) (r.answers bags fit);
  }

  pub filter_congruent : (p : Expr) (a b : Plan) → Alike ss a b → Alike ss (Filter p a) (Filter p b)
  filter_congruent p a b h t u =
      let s = h (filter_typed ss p a t) (filter_typed ss p b u) in
      record {
        kinds = filter_keeps ss p a t ∙ s.kinds ∙ sym (filter_keeps ss p b u);
        answers = λ bags fit. same_answers (alg-Filter p a bags) (alg-Filter p b bags)
            (SameBag-filter (passes p) (s.answers bags fit));
      }

  pub map_congruent : (es : List Expr) (a b : Plan) → Alike ss a b → Alike ss (Map es a) (Map es b)
  map_congruent es a b h t u =
      let s = h (map_typed ss es a t) (map_typed ss es b u) in
      record {
        kinds = map_kinds_of ss es a b s.kinds;
        answers = λ bags fit. same_answers (alg-Map es a bags) (alg-Map es b bags)
            (SameBag-map (values_of es) (s.answers bags fit));
      }

  pub union_congruent : (a b c : Plan) → Alike ss a b → Alike ss (Union a c) (Union b c)
  union_congruent a b c h t u =
      let s = h (union_left_typed ss a c t) (union_left_typed ss b c u) in
      record {
        kinds = union_keeps ss a c t ∙ s.kinds ∙ sym (union_keeps ss b c u);
        answers = λ bags fit. same_answers (alg-Union a c bags) (alg-Union b c bags)
            (SameBag-append (s.answers bags fit) (SameBag-refl (alg c bags)));
      }

  pub union_congruent_right : (a b c : Plan) → Alike ss b c → Alike ss (Union a b) (Union a c)
  union_congruent_right a b c h t u =
      let s = h (union_right_typed ss a b t) (union_right_typed ss a c u) in
      record {
        kinds = union_keeps ss a b t ∙ sym (union_keeps ss a c u);
        answers = λ bags fit. same_answers (alg-Union a b bags) (alg-Union a c bags)
            (SameBag-append (SameBag-refl (alg a bags)) (s.answers bags fit));
      }

  pub join_congruent : (k : List Pair) (c : Expr) (a b z : Plan) → Alike ss a b
      → Alike ss (Join k c a z) (Join k c b z)
  join_congruent k c a b z h t u =
      let s = h (join_left_typed ss k c a z t) (join_left_typed ss k c b z u) in
      record {
        kinds = join_same_kinds ss k k c c a b z z t u s.kinds refl;
        answers = λ bags fit. same_answers (alg-Join k c a z bags) (alg-Join k c b z bags)
            (SameBag-joined k c (alg a bags) (alg b bags) (alg z bags) (alg z bags)
            (s.answers bags fit) (SameBag-refl (alg z bags)));
      }

  pub join_congruent_right : (k : List Pair) (c : Expr) (a b z : Plan) → Alike ss b z
      → Alike ss (Join k c a b) (Join k c a z)
  join_congruent_right k c a b z h t u =
      let s = h (join_right_typed ss k c a b t) (join_right_typed ss k c a z u) in
      record {
        kinds = join_same_kinds ss k k c c a a b z t u refl s.kinds;
        answers = λ bags fit. same_answers (alg-Join k c a b bags) (alg-Join k c a z bags)
            (SameBag-joined k c (alg a bags) (alg a bags) (alg b bags) (alg z bags)
            (SameBag-refl (alg a bags)) (s.answers bags fit));
      }

  pub distinct_congruent : (a b : Plan) → Alike ss a b → Alike ss (Distinct a) (Distinct b)
  distinct_congruent a b h t u =
      let s = h (distinct_typed ss a t) (distinct_typed ss b u) in
      record {
        kinds = distinct_keeps ss a ∙ s.kinds ∙ sym (distinct_keeps ss b);
        answers = λ bags fit. same_answers (alg-Distinct a bags) (alg-Distinct b bags)
            (SameBag-distinct (alg a bags) (alg b bags) (s.answers bags fit));
      }

  pub group_congruent : (k : List ℕ) (g : List Agg) (a b : Plan) → Alike ss a b
      → Alike ss (Group k g a) (Group k g b)
  group_congruent k g a b h t u =
      let s = h (group_typed ss k g a t) (group_typed ss k g b u) in
      record {
        kinds = group_kinds_of ss k g a b s.kinds;
        answers = λ bags fit. same_answers (alg-Group k g a bags) (alg-Group k g b bags)
            (SameBag-grouped k g (alg a bags) (alg b bags) (s.answers bags fit));
      }

  pub minus_congruent : (a b c : Plan) → Alike ss a b → Alike ss (Minus a c) (Minus b c)
  minus_congruent a b c h t u =
      let s = h (minus_left_typed ss a c t) (minus_left_typed ss b c u) in
      record {
        kinds = minus_keeps ss a c t ∙ s.kinds ∙ sym (minus_keeps ss b c u);
        answers = λ bags fit. same_answers (alg-Minus a c bags) (alg-Minus b c bags)
            (SameBag-minus (alg a bags) (alg b bags) (alg c bags) (alg c bags)
            (s.answers bags fit) (SameBag-refl (alg c bags)));
      }

  pub minus_congruent_right : (a b c : Plan) → Alike ss b c → Alike ss (Minus a b) (Minus a c)
  minus_congruent_right a b c h t u =
      let s = h (minus_right_typed ss a b t) (minus_right_typed ss a c u) in
      record {
        kinds = minus_keeps ss a b t ∙ sym (minus_keeps ss a c u);
        answers = λ bags fit. same_answers (alg-Minus a b bags) (alg-Minus a c bags)
            (SameBag-minus (alg a bags) (alg a bags) (alg b bags) (alg c bags)
            (SameBag-refl (alg a bags)) (s.answers bags fit));
      }
