-- What a step makes of a typed plan means the same, where it is typed too.
use Rattle.std.proofs.Common.{◌≡◌, ℕ, Bool, true, false, cond, List, [], ◌∷◌, refl, sym, ap, ◌∙◌}
use Rattle.std.proofs.Common.{subst, Option, Some, None, Result, Ok, Err}
use Rattle.std.specs.Prelude.{nat_eq}
use Rattle.pipes_tuple.specs.declared.value.Kind.{Kind}
use Rattle.pipes_plan.specs.declared.plan.Plan.{Plan, out-Plan, roll-Plan, roll-out-Plan}
use Rattle.pipes_plan.specs.declared.plan.Plan.TheOpen.{Plan-F}
use Rattle.pipes_plan.specs.declared.plan.Plan.TheOpen as o
use Rattle.pipes_plan.specs.declared.plan.Plan.TheVariants.{Filter, Map, Union, Join, Distinct}
use Rattle.pipes_plan.specs.declared.plan.Plan.TheVariants.{Group, Minus, rolls-Filter, rolls-Map}
use Rattle.pipes_plan.specs.declared.plan.Plan.TheVariants.{rolls-Union, rolls-Join, rolls-Distinct}
use Rattle.pipes_plan.specs.declared.plan.Plan.TheVariants.{rolls-Group, rolls-Minus}
use Rattle.pipes_rewrite.specs.SameMeaning.{SameMeaning, Alike}
use Rattle.pipes_rule_laws.proofs.Congruent.{filter_congruent, map_congruent, union_congruent}
use Rattle.pipes_rule_laws.proofs.Congruent.{union_congruent_right, join_congruent}
use Rattle.pipes_rule_laws.proofs.Congruent.{join_congruent_right, distinct_congruent}
use Rattle.pipes_rule_laws.proofs.Congruent.{group_congruent, minus_congruent}
use Rattle.pipes_rule_laws.proofs.Congruent.{minus_congruent_right}
use Rattle.pipes_rule_laws.proofs.FormsSound.{filter_merge_to_sound, filter_merge_from_sound}
use Rattle.pipes_rule_laws.proofs.FormsSound.{filter_swap_to_sound, filter_union_to_sound}
use Rattle.pipes_rule_laws.proofs.FormsSound.{filter_union_from_sound, filter_distinct_to_sound}
use Rattle.pipes_rule_laws.proofs.FormsSound.{filter_distinct_from_sound, filter_minus_to_sound}
use Rattle.pipes_rule_laws.proofs.FormsSound.{filter_minus_from_sound, filter_map_to_sound}
use Rattle.pipes_rule_laws.proofs.FormsSound.{filter_map_from_sound, filter_left_to_sound}
use Rattle.pipes_rule_laws.proofs.FormsSound.{filter_left_from_sound, filter_right_to_sound}
use Rattle.pipes_rule_laws.proofs.FormsSound.{filter_right_from_sound, filter_cond_to_sound}
use Rattle.pipes_rule_laws.proofs.FormsSound.{filter_cond_from_sound, filter_group_to_sound}
use Rattle.pipes_rule_laws.proofs.FormsSound.{filter_group_from_sound, join_commute_to_sound}
use Rattle.pipes_rule_laws.proofs.FormsSound.{join_commute_from_sound, join_assoc_to_sound}
use Rattle.pipes_rule_laws.proofs.FormsSound.{join_assoc_from_sound, join_union_to_sound}
use Rattle.pipes_rule_laws.proofs.FormsSound.{join_union_from_sound, union_commute_to_sound}
use Rattle.pipes_rule_laws.proofs.FormsSound.{union_assoc_to_sound, union_assoc_from_sound}
use Rattle.pipes_rule_laws.proofs.FormsSound.{distinct_twice_to_sound, distinct_twice_from_sound}
use Rattle.pipes_rule_laws.proofs.FormsSound.{distinct_union_to_sound, distinct_union_from_sound}
use Rattle.pipes_rule_laws.proofs.FormsSound.{distinct_join_to_sound, distinct_join_from_sound}
use Rattle.pipes_rule_laws.proofs.FormsSound.{distinct_group_to_sound, distinct_group_from_sound}
use Rattle.pipes_rule_laws.proofs.FormsSound.{map_merge_to_sound, map_merge_from_sound}
use Rattle.pipes_rule_laws.proofs.FormsSound.{map_union_to_sound, map_union_from_sound}
use Rattle.pipes_rule_laws.proofs.FormsSound.{minus_assoc_to_sound, minus_assoc_from_sound}
use Rattle.pipes_rule_laws.proofs.FormsSound.{join_union_right_to_sound}
use Rattle.pipes_rule_laws.proofs.FormsSound.{join_union_right_from_sound}
use Rattle.pipes_rule_laws.proofs.FormsSound.{distinct_map_to_sound, distinct_map_from_sound}
use Rattle.pipes_rule_laws.proofs.FormsSound.{group_distinct_to_sound, group_distinct_from_sound}
use Rattle.pipes_rule_laws.proofs.FormsSound.{filter_true_to_sound, filter_true_from_sound}
use Rattle.pipes_rules.specs.declared.table.Rule.{Rule}
use Rattle.pipes_rules.specs.declared.table.Rule.TheVariants as rule
use Rattle.pipes_rules.specs.declared.step.Arg.{Arg}
use Rattle.pipes_rules.specs.declared.step.Arg.TheVariants.{Nothing, OneExpr, TwoLists}
use Rattle.pipes_rules.specs.declared.step.Step.{Step}
use Rattle.pipes_rules.specs.declared.step.StepRefusal.{StepRefusal}
use Rattle.pipes_rules.specs.declared.step.StepRefusal.TheVariants.{NoSuchPlace, NoMatch}
use Rattle.pipes_rules.specs.Rewriting.{rule_forward, rule_back}
use Rattle.pipes_rules.specs.Stepping.{without_arg, step_form, or_refuse, wrapped, at_only, at_side}
use Rattle.pipes_rules.specs.Stepping.{with_child, rewritten_at, stepped}

-- ---- each rule, forward and back

forward_sound : (ss : List (List Kind)) (r : Rule) (old new : Plan)
    → rule_forward ss r old ≡ Some new → Alike ss old new
forward_sound ss rule.FilterMerge old new e = filter_merge_to_sound ss old new e
forward_sound ss rule.FilterSwap old new e = filter_swap_to_sound ss old new e
forward_sound ss rule.FilterUnion old new e = filter_union_to_sound ss old new e
forward_sound ss rule.FilterDistinct old new e = filter_distinct_to_sound ss old new e
forward_sound ss rule.FilterMinus old new e = filter_minus_to_sound ss old new e
forward_sound ss rule.FilterMap old new e = filter_map_to_sound ss old new e
forward_sound ss rule.FilterLeft old new e = filter_left_to_sound ss old new e
forward_sound ss rule.FilterRight old new e = filter_right_to_sound ss old new e
forward_sound ss rule.FilterCond old new e = filter_cond_to_sound ss old new e
forward_sound ss rule.FilterGroup old new e = filter_group_to_sound ss old new e
forward_sound ss rule.JoinCommute old new e = join_commute_to_sound ss old new e
forward_sound ss rule.JoinAssoc old new e = join_assoc_to_sound ss old new e
forward_sound ss rule.JoinUnion old new e = join_union_to_sound ss old new e
forward_sound ss rule.UnionCommute old new e = union_commute_to_sound ss old new e
forward_sound ss rule.UnionAssoc old new e = union_assoc_to_sound ss old new e
forward_sound ss rule.DistinctTwice old new e = distinct_twice_to_sound ss old new e
forward_sound ss rule.DistinctUnion old new e = distinct_union_to_sound ss old new e
forward_sound ss rule.DistinctJoin old new e = distinct_join_to_sound ss old new e
forward_sound ss rule.DistinctGroup old new e = distinct_group_to_sound ss old new e
forward_sound ss rule.MapMerge old new e = map_merge_to_sound ss old new e
forward_sound ss rule.MapUnion old new e = map_union_to_sound ss old new e
forward_sound ss rule.MinusAssoc old new e = minus_assoc_to_sound ss old new e
forward_sound ss rule.JoinUnionRight old new e = join_union_right_to_sound ss old new e
forward_sound ss rule.DistinctMap old new e = distinct_map_to_sound ss old new e
forward_sound ss rule.GroupDistinct old new e = group_distinct_to_sound ss old new e
forward_sound ss rule.FilterTrue old new e = filter_true_to_sound ss old new e

back_sound : (ss : List (List Kind)) (r : Rule) (arg : Arg) (old new : Plan)
    → rule_back ss r arg old ≡ Some new → Alike ss old new
back_sound ss rule.FilterMerge Nothing old new e = filter_merge_from_sound ss old new e
back_sound ss rule.FilterMerge (OneExpr p) old new e = cc
back_sound ss rule.FilterMerge (TwoLists es fs) old new e = cc
back_sound ss rule.FilterSwap Nothing old new e = filter_swap_to_sound ss old new e
back_sound ss rule.FilterSwap (OneExpr p) old new e = cc
back_sound ss rule.FilterSwap (TwoLists es fs) old new e = cc
back_sound ss rule.FilterUnion Nothing old new e = filter_union_from_sound ss old new e
back_sound ss rule.FilterUnion (OneExpr p) old new e = cc
back_sound ss rule.FilterUnion (TwoLists es fs) old new e = cc
back_sound ss rule.FilterDistinct Nothing old new e = filter_distinct_from_sound ss old new e
back_sound ss rule.FilterDistinct (OneExpr p) old new e = cc
back_sound ss rule.FilterDistinct (TwoLists es fs) old new e = cc
back_sound ss rule.FilterMinus Nothing old new e = filter_minus_from_sound ss old new e
back_sound ss rule.FilterMinus (OneExpr p) old new e = cc
back_sound ss rule.FilterMinus (TwoLists es fs) old new e = cc
back_sound ss rule.FilterMap Nothing old new e = cc
back_sound ss rule.FilterMap (OneExpr p) old new e = filter_map_from_sound ss p old new e
back_sound ss rule.FilterMap (TwoLists es fs) old new e = cc
back_sound ss rule.FilterLeft Nothing old new e = filter_left_from_sound ss old new e
back_sound ss rule.FilterLeft (OneExpr p) old new e = cc
back_sound ss rule.FilterLeft (TwoLists es fs) old new e = cc
back_sound ss rule.FilterRight Nothing old new e = filter_right_from_sound ss old new e
back_sound ss rule.FilterRight (OneExpr p) old new e = cc
back_sound ss rule.FilterRight (TwoLists es fs) old new e = cc
back_sound ss rule.FilterCond Nothing old new e = filter_cond_from_sound ss old new e
back_sound ss rule.FilterCond (OneExpr p) old new e = cc
back_sound ss rule.FilterCond (TwoLists es fs) old new e = cc
back_sound ss rule.FilterGroup Nothing old new e = cc
back_sound ss rule.FilterGroup (OneExpr p) old new e = filter_group_from_sound ss p old new e
back_sound ss rule.FilterGroup (TwoLists es fs) old new e = cc
back_sound ss rule.JoinCommute Nothing old new e = join_commute_from_sound ss old new e
back_sound ss rule.JoinCommute (OneExpr p) old new e = cc
back_sound ss rule.JoinCommute (TwoLists es fs) old new e = cc
back_sound ss rule.JoinAssoc Nothing old new e = join_assoc_from_sound ss old new e
back_sound ss rule.JoinAssoc (OneExpr p) old new e = cc
back_sound ss rule.JoinAssoc (TwoLists es fs) old new e = cc
back_sound ss rule.JoinUnion Nothing old new e = join_union_from_sound ss old new e
back_sound ss rule.JoinUnion (OneExpr p) old new e = cc
back_sound ss rule.JoinUnion (TwoLists es fs) old new e = cc
back_sound ss rule.UnionCommute Nothing old new e = union_commute_to_sound ss old new e
back_sound ss rule.UnionCommute (OneExpr p) old new e = cc
back_sound ss rule.UnionCommute (TwoLists es fs) old new e = cc
back_sound ss rule.UnionAssoc Nothing old new e = union_assoc_from_sound ss old new e
back_sound ss rule.UnionAssoc (OneExpr p) old new e = cc
back_sound ss rule.UnionAssoc (TwoLists es fs) old new e = cc
back_sound ss rule.DistinctTwice Nothing old new e = distinct_twice_from_sound ss old new e
back_sound ss rule.DistinctTwice (OneExpr p) old new e = cc
back_sound ss rule.DistinctTwice (TwoLists es fs) old new e = cc
back_sound ss rule.DistinctUnion Nothing old new e = distinct_union_from_sound ss old new e
back_sound ss rule.DistinctUnion (OneExpr p) old new e = cc
back_sound ss rule.DistinctUnion (TwoLists es fs) old new e = cc
back_sound ss rule.DistinctJoin Nothing old new e = distinct_join_from_sound ss old new e
back_sound ss rule.DistinctJoin (OneExpr p) old new e = cc
back_sound ss rule.DistinctJoin (TwoLists es fs) old new e = cc
back_sound ss rule.DistinctGroup Nothing old new e = distinct_group_from_sound ss old new e
back_sound ss rule.DistinctGroup (OneExpr p) old new e = cc
back_sound ss rule.DistinctGroup (TwoLists es fs) old new e = cc
back_sound ss rule.MapMerge Nothing old new e = cc
back_sound ss rule.MapMerge (OneExpr p) old new e = cc
back_sound ss rule.MapMerge (TwoLists es fs) old new e = map_merge_from_sound ss es fs old new e
back_sound ss rule.MapUnion Nothing old new e = map_union_from_sound ss old new e
back_sound ss rule.MapUnion (OneExpr p) old new e = cc
back_sound ss rule.MapUnion (TwoLists es fs) old new e = cc
back_sound ss rule.MinusAssoc Nothing old new e = minus_assoc_from_sound ss old new e
back_sound ss rule.MinusAssoc (OneExpr p) old new e = cc
back_sound ss rule.MinusAssoc (TwoLists es fs) old new e = cc
back_sound ss rule.JoinUnionRight Nothing old new e = join_union_right_from_sound ss old new e
back_sound ss rule.JoinUnionRight (OneExpr p) old new e = cc
back_sound ss rule.JoinUnionRight (TwoLists es fs) old new e = cc
back_sound ss rule.DistinctMap Nothing old new e = distinct_map_from_sound ss old new e
back_sound ss rule.DistinctMap (OneExpr p) old new e = cc
back_sound ss rule.DistinctMap (TwoLists es fs) old new e = cc
back_sound ss rule.GroupDistinct Nothing old new e = group_distinct_from_sound ss old new e
back_sound ss rule.GroupDistinct (OneExpr p) old new e = cc
back_sound ss rule.GroupDistinct (TwoLists es fs) old new e = cc
back_sound ss rule.FilterTrue Nothing old new e = filter_true_from_sound ss old new e
back_sound ss rule.FilterTrue (OneExpr p) old new e = cc
back_sound ss rule.FilterTrue (TwoLists es fs) old new e = cc

without_arg_is : (arg : Arg) (form : Option Plan) (new : Plan) → without_arg arg form ≡ Some new
    → form ≡ Some new
without_arg_is Nothing form new h = h
without_arg_is (OneExpr p) form new h = cc
without_arg_is (TwoLists es fs) form new h = cc

step_sound : (ss : List (List Kind)) (step : Step) (old new : Plan)
    → step_form ss step old ≡ Some new → Alike ss old new
step_sound ss step old new h = go step.back h where
  go : (b : Bool) → cond b (rule_back ss step.rule step.arg old)
      (without_arg step.arg (rule_forward ss step.rule old)) ≡ Some new → Alike ss old new
  go true e = back_sound ss step.rule step.arg old new e
  go false e = forward_sound ss step.rule old new (without_arg_is step.arg _ new e)

-- ---- at the end of a path

or_refuse_is : (form : Option Plan) (new : Plan) → or_refuse NoMatch form ≡ Ok new
    → form ≡ Some new
or_refuse_is (Some plan) new h = cc
or_refuse_is None new h = cc

placed_is : (wrap : Plan → Plan) (r : Result Plan StepRefusal) (new : Plan)
    → wrapped wrap r ≡ Ok new → (x : Plan) × (r ≡ Ok x) × (wrap x ≡ new)
placed_is wrap (Ok x) new h = (x, refl, cc)
placed_is wrap (Err why) new h = cc

only_is : (i : ℕ) (r : Result Plan StepRefusal) (new : Plan) → at_only i r ≡ Ok new → r ≡ Ok new
only_is i r new h = go (nat_eq i 0) h where
  go : (b : Bool) → cond b r (Err NoSuchPlace) ≡ Ok new → r ≡ Ok new
  go true e = e
  go false e = cc

-- the left or the right child's
data OneOf (r s : Result Plan StepRefusal) (new : Plan) : Type 0 where
  left_one : r ≡ Ok new → OneOf r s new
  right_one : s ≡ Ok new → OneOf r s new

side_is : (i : ℕ) (r s : Result Plan StepRefusal) (new : Plan) → at_side i r s ≡ Ok new
    → OneOf r s new
side_is i r s new h = go (nat_eq i 0) (nat_eq i 1) h where
  go : (b c : Bool) → cond b r (cond c s (Err NoSuchPlace)) ≡ Ok new → OneOf r s new
  go true c e = left_one e
  go false true e = right_one e
  go false false e = cc

module _ (ss : List (List Kind)) where
  under : (old new : Plan) (wrap : Plan → Plan) (r : Result Plan StepRefusal)
      → ((x : Plan) → r ≡ Ok x → Alike ss old (wrap x)) → wrapped wrap r ≡ Ok new → Alike ss old new
  under old new wrap r h e =
      let w = placed_is wrap r new e in subst (λ z. Alike ss old z) w.2 (h w.0 w.1)

  either_side : (old new : Plan) (f g : Plan → Plan) (r s : Result Plan StepRefusal)
      → ((x : Plan) → r ≡ Ok x → Alike ss old (f x)) → ((x : Plan) → s ≡ Ok x → Alike ss old (g x))
      → OneOf (wrapped f r) (wrapped g s) new → Alike ss old new
  either_side old new f g r s h k (left_one e) = under old new f r h e
  either_side old new f g r s h k (right_one e) = under old new g s k e

  module _ (g : Plan → Result Plan StepRefusal)
      (inner : (old new : Plan) → g old ≡ Ok new → Alike ss old new) (i : ℕ) (new : Plan) where
    child_layer : (y : Plan-F Plan) → with_child i g y ≡ Ok new → Alike ss (roll-Plan y) new
    child_layer (o.Source n) e = cc
    child_layer (o.Filter p a) e = subst (λ z. Alike ss z new) (sym (rolls-Filter p a))
        (under (Filter p a) new (λ x. Filter p x) (g a)
        (λ x h. filter_congruent ss p a x (inner a x h)) (only_is i _ new e))
    child_layer (o.Map es a) e = subst (λ z. Alike ss z new) (sym (rolls-Map es a))
        (under (Map es a) new (λ x. Map es x) (g a)
        (λ x h. map_congruent ss es a x (inner a x h)) (only_is i _ new e))
    child_layer (o.Union a b) e = subst (λ z. Alike ss z new) (sym (rolls-Union a b))
        (either_side (Union a b) new (λ x. Union x b) (λ x. Union a x) (g a) (g b)
        (λ x h. union_congruent ss a x b (inner a x h))
        (λ x h. union_congruent_right ss a b x (inner b x h)) (side_is i _ _ new e))
    child_layer (o.Join k c a b) e = subst (λ z. Alike ss z new) (sym (rolls-Join k c a b))
        (either_side (Join k c a b) new (λ x. Join k c x b) (λ x. Join k c a x) (g a) (g b)
        (λ x h. join_congruent ss k c a x b (inner a x h))
        (λ x h. join_congruent_right ss k c a b x (inner b x h)) (side_is i _ _ new e))
    child_layer (o.Distinct a) e = subst (λ z. Alike ss z new) (sym (rolls-Distinct a))
        (under (Distinct a) new (λ x. Distinct x) (g a)
        (λ x h. distinct_congruent ss a x (inner a x h)) (only_is i _ new e))
    child_layer (o.Group k f a) e = subst (λ z. Alike ss z new) (sym (rolls-Group k f a))
        (under (Group k f a) new (λ x. Group k f x) (g a)
        (λ x h. group_congruent ss k f a x (inner a x h)) (only_is i _ new e))
    child_layer (o.Minus a b) e = subst (λ z. Alike ss z new) (sym (rolls-Minus a b))
        (either_side (Minus a b) new (λ x. Minus x b) (λ x. Minus a x) (g a) (g b)
        (λ x h. minus_congruent ss a x b (inner a x h))
        (λ x h. minus_congruent_right ss a b x (inner b x h)) (side_is i _ _ new e))

  path_sound : (f : Plan → Option Plan)
      → ((old new : Plan) → f old ≡ Some new → Alike ss old new) → (path : List ℕ)
      → (old new : Plan) → rewritten_at f path old ≡ Ok new → Alike ss old new
  path_sound f h [] old new e = h old new (or_refuse_is (f old) new e)
  path_sound f h (i ∷ path) old new e = subst (λ z. Alike ss z new) (roll-out-Plan old)
      (child_layer (rewritten_at f path) (path_sound f h path) i new (out-Plan old) e)

  -- where a step's rule is applied, both plans mean the same
  pub stepped_sound : (step : Step) (old new : Plan) → stepped ss step old ≡ Ok new
      → Alike ss old new
  stepped_sound step old new e = path_sound (step_form ss step) (step_sound ss step) step.path old
      new e
