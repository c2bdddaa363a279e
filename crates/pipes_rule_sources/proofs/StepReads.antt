-- What a step makes, and a derivation, reads the sources that the plan before it reads.
use Rattle.std.proofs.Common.{◌≡◌, ℕ, Bool, true, false, ◌||◌, cond, List, [], ◌∷◌, refl, ap}
use Rattle.std.proofs.Common.{◌∙◌, subst, Option, Some, None, Result, Ok, Err}
use Rattle.std.specs.Prelude.{nat_eq}
use Rattle.pipes_tuple.specs.declared.value.Kind.{Kind}
use Rattle.pipes_expr.specs.declared.expr.Expr.{Expr}
use Rattle.pipes_plan.specs.declared.plan.Plan.{Plan, out-Plan, roll-Plan, roll-out-Plan}
use Rattle.pipes_plan.specs.declared.plan.Plan.TheOpen.{Plan-F}
use Rattle.pipes_plan.specs.declared.plan.Plan.TheOpen as o
use Rattle.pipes_plan.specs.declared.plan.Plan.TheVariants.{Filter, Map, Union, Join, Distinct}
use Rattle.pipes_plan.specs.declared.plan.Plan.TheVariants.{Group, Minus, rolls-Filter, rolls-Map}
use Rattle.pipes_plan.specs.declared.plan.Plan.TheVariants.{rolls-Union, rolls-Join, rolls-Distinct}
use Rattle.pipes_plan.specs.declared.plan.Plan.TheVariants.{rolls-Group, rolls-Minus}
use Rattle.pipes_rules.specs.declared.table.Rule.{Rule}
use Rattle.pipes_rules.specs.declared.table.Rule.TheVariants as rule
use Rattle.pipes_rules.specs.declared.step.Arg.{Arg}
use Rattle.pipes_rules.specs.declared.step.Arg.TheVariants.{Nothing, OneExpr, TwoLists}
use Rattle.pipes_rules.specs.declared.step.Step.{Step}
use Rattle.pipes_rules.specs.declared.step.StepRefusal.{StepRefusal}
use Rattle.pipes_rules.specs.declared.step.StepRefusal.TheVariants.{NoSuchPlace, NoMatch}
use Rattle.pipes_rules.specs.Rewriting.{rule_forward, back_plain, back_with_expr, back_with_lists}
use Rattle.pipes_rules.specs.Rewriting.{rule_back}
use Rattle.pipes_rules.specs.Stepping.{without_arg, step_form, or_refuse, wrapped, at_only, at_side}
use Rattle.pipes_rules.specs.Stepping.{with_child, rewritten_at, Applies, Derives}
use Rattle.pipes_rule_sources.specs.Reads.{reads, SameSources}
use Rattle.pipes_rule_sources.proofs.NodeReads.{Gives, gives_none, gives_either, leaves_read}
use Rattle.pipes_rule_sources.proofs.FormReads as form
use Rattle.pipes_rule_sources.proofs.FormReads.{Keeps}

module _ (s : ℕ) where
  -- ---- each rule, forward and back

  forward_keeps : (ss : List (List Kind)) (r : Rule) → Keeps s (rule_forward ss r)
  forward_keeps ss rule.FilterMerge = form.filter_merge_to_keeps s
  forward_keeps ss rule.FilterSwap = form.filter_swap_to_keeps s
  forward_keeps ss rule.FilterUnion = form.filter_union_to_keeps s
  forward_keeps ss rule.FilterDistinct = form.filter_distinct_to_keeps s
  forward_keeps ss rule.FilterMinus = form.filter_minus_to_keeps s
  forward_keeps ss rule.FilterMap = form.filter_map_to_keeps s
  forward_keeps ss rule.FilterLeft = form.filter_left_to_keeps s ss
  forward_keeps ss rule.FilterRight = form.filter_right_to_keeps s ss
  forward_keeps ss rule.FilterCond = form.filter_cond_to_keeps s
  forward_keeps ss rule.FilterGroup = form.filter_group_to_keeps s
  forward_keeps ss rule.JoinCommute = form.join_commute_to_keeps s ss
  forward_keeps ss rule.JoinAssoc = form.join_assoc_to_keeps s ss
  forward_keeps ss rule.JoinUnion = form.join_union_to_keeps s
  forward_keeps ss rule.UnionCommute = form.union_commute_to_keeps s
  forward_keeps ss rule.UnionAssoc = form.union_assoc_to_keeps s
  forward_keeps ss rule.DistinctTwice = form.distinct_twice_to_keeps s
  forward_keeps ss rule.DistinctUnion = form.distinct_union_to_keeps s
  forward_keeps ss rule.DistinctJoin = form.distinct_join_to_keeps s
  forward_keeps ss rule.DistinctGroup = form.distinct_group_to_keeps s
  forward_keeps ss rule.MapMerge = form.map_merge_to_keeps s
  forward_keeps ss rule.MapUnion = form.map_union_to_keeps s
  forward_keeps ss rule.MinusAssoc = form.minus_assoc_to_keeps s
  forward_keeps ss rule.JoinUnionRight = form.join_union_right_to_keeps s
  forward_keeps ss rule.DistinctMap = form.distinct_map_to_keeps s
  forward_keeps ss rule.GroupDistinct = form.group_distinct_to_keeps s
  forward_keeps ss rule.FilterTrue = form.filter_true_to_keeps s

  back_plain_keeps : (ss : List (List Kind)) (r : Rule) → Keeps s (back_plain ss r)
  back_plain_keeps ss rule.FilterMerge = form.filter_merge_from_keeps s
  back_plain_keeps ss rule.FilterSwap = form.filter_swap_to_keeps s
  back_plain_keeps ss rule.FilterUnion = form.filter_union_from_keeps s
  back_plain_keeps ss rule.FilterDistinct = form.filter_distinct_from_keeps s
  back_plain_keeps ss rule.FilterMinus = form.filter_minus_from_keeps s
  back_plain_keeps ss rule.FilterLeft = form.filter_left_from_keeps s ss
  back_plain_keeps ss rule.FilterRight = form.filter_right_from_keeps s ss
  back_plain_keeps ss rule.FilterCond = form.filter_cond_from_keeps s
  back_plain_keeps ss rule.JoinCommute = form.join_commute_from_keeps s ss
  back_plain_keeps ss rule.JoinAssoc = form.join_assoc_from_keeps s ss
  back_plain_keeps ss rule.JoinUnion = form.join_union_from_keeps s
  back_plain_keeps ss rule.UnionCommute = form.union_commute_to_keeps s
  back_plain_keeps ss rule.UnionAssoc = form.union_assoc_from_keeps s
  back_plain_keeps ss rule.DistinctTwice = form.distinct_twice_from_keeps s
  back_plain_keeps ss rule.DistinctUnion = form.distinct_union_from_keeps s
  back_plain_keeps ss rule.DistinctJoin = form.distinct_join_from_keeps s
  back_plain_keeps ss rule.DistinctGroup = form.distinct_group_from_keeps s
  back_plain_keeps ss rule.MapUnion = form.map_union_from_keeps s
  back_plain_keeps ss rule.MinusAssoc = form.minus_assoc_from_keeps s
  back_plain_keeps ss rule.JoinUnionRight = form.join_union_right_from_keeps s
  back_plain_keeps ss rule.DistinctMap = form.distinct_map_from_keeps s
  back_plain_keeps ss rule.GroupDistinct = form.group_distinct_from_keeps s
  back_plain_keeps ss rule.FilterTrue = form.filter_true_from_keeps s
  back_plain_keeps ss _ = λ plan. gives_none s _

  back_expr_keeps : (r : Rule) (p : Expr) → Keeps s (back_with_expr r p)
  back_expr_keeps rule.FilterMap p = form.filter_map_from_keeps s p
  back_expr_keeps rule.FilterGroup p = form.filter_group_from_keeps s p
  back_expr_keeps _ p = λ plan. gives_none s _

  back_lists_keeps : (r : Rule) (es fs : List Expr) → Keeps s (back_with_lists r es fs)
  back_lists_keeps rule.MapMerge es fs = form.map_merge_from_keeps s es fs
  back_lists_keeps _ es fs = λ plan. gives_none s _

  back_keeps : (ss : List (List Kind)) (r : Rule) (arg : Arg) → Keeps s (rule_back ss r arg)
  back_keeps ss r Nothing = back_plain_keeps ss r
  back_keeps ss r (OneExpr p) = back_expr_keeps r p
  back_keeps ss r (TwoLists es fs) = back_lists_keeps r es fs

  no_arg_keeps : (arg : Arg) (b : Bool) (made : Option Plan) → Gives s b made
      → Gives s b (without_arg arg made)
  no_arg_keeps Nothing b made h = h
  no_arg_keeps (OneExpr p) b made h = gives_none s b
  no_arg_keeps (TwoLists es fs) b made h = gives_none s b

  form_keeps : (ss : List (List Kind)) (step : Step) → Keeps s (step_form ss step)
  form_keeps ss step plan = gives_either s (reads s plan) step.back _ _
      (back_keeps ss step.rule step.arg plan)
      (no_arg_keeps step.arg _ _ (forward_keeps ss step.rule plan))

  -- ---- at the end of a path

  -- the rewritten plan, if there is one, reads the source where this says so
  abbrev Yields : Bool → Result Plan StepRefusal → Type 0
  Yields b r = (new : Plan) → r ≡ Ok new → b ≡ reads s new

  yields_form : (b : Bool) (made : Option Plan) → Gives s b made
      → Yields b (or_refuse NoMatch made)
  yields_form b (Some plan) h new e = h new cc
  yields_form b None h new e = cc

  yields_either : (b t : Bool) (l r : Result Plan StepRefusal) → Yields b l → Yields b r
      → Yields b (cond t l r)
  yields_either b true l r h k = h
  yields_either b false l r h k = k

  yields_no : (b : Bool) → Yields b (Err NoSuchPlace)
  yields_no b new e = cc

  yields_only : (i : ℕ) (b : Bool) (r : Result Plan StepRefusal) → Yields b r
      → Yields b (at_only i r)
  yields_only i b r h = yields_either b (nat_eq i 0) _ _ h (yields_no b)

  yields_side : (i : ℕ) (b : Bool) (l r : Result Plan StepRefusal) → Yields b l → Yields b r
      → Yields b (at_side i l r)
  yields_side i b l r h k = yields_either b (nat_eq i 0) _ _ h
      (yields_either b (nat_eq i 1) _ _ k (yields_no b))

  -- the child in its place; f says what is read beside it
  yields_wrapped : (f : Bool → Bool) (wrap : Plan → Plan)
      → ((x : Plan) → f (reads s x) ≡ reads s (wrap x)) → (b : Bool) (r : Result Plan StepRefusal)
      → Yields b r → Yields (f b) (wrapped wrap r)
  yields_wrapped f wrap like b (Ok x) h new e =
      let same : wrap x ≡ new = cc in
      ap f (h x refl) ∙ like x ∙ ap (reads s) same
  yields_wrapped f wrap like b (Err why) h new e = cc

  module _ (g : Plan → Result Plan StepRefusal)
      (inner : (plan : Plan) → Yields (reads s plan) (g plan)) (i : ℕ) where
    one_child : (node a : Plan) (wrap : Plan → Plan) → reads s a ≡ reads s node
        → ((x : Plan) → reads s x ≡ reads s (wrap x))
        → Yields (reads s node) (at_only i (wrapped wrap (g a)))
    one_child node a wrap is like = subst (λ b. Yields b (at_only i (wrapped wrap (g a)))) is
        (yields_only i _ _ (yields_wrapped (λ v. v) wrap like _ _ (inner a)))

    two_children : (node a b : Plan) (left right : Plan → Plan)
        → (reads s a || reads s b) ≡ reads s node
        → ((x : Plan) → (reads s x || reads s b) ≡ reads s (left x))
        → ((x : Plan) → (reads s a || reads s x) ≡ reads s (right x))
        → Yields (reads s node) (at_side i (wrapped left (g a)) (wrapped right (g b)))
    two_children node a b left right is like like' =
        subst (λ v. Yields v (at_side i (wrapped left (g a)) (wrapped right (g b)))) is
        (yields_side i _ _ _
        (yields_wrapped (λ v. v || reads s b) left like _ _ (inner a))
        (yields_wrapped (λ v. reads s a || v) right like' _ _ (inner b)))

    layer_yields : (y : Plan-F Plan) → Yields (reads s (roll-Plan y)) (with_child i g y)
    layer_yields (o.Source n) = yields_no _
    layer_yields (o.Filter p a) = one_child _ a (λ x. Filter p x) (simp (rolls-Filter, leaves_read))
        (λ x. simp leaves_read)
    layer_yields (o.Map es a) = one_child _ a (λ x. Map es x) (simp (rolls-Map, leaves_read))
        (λ x. simp leaves_read)
    layer_yields (o.Union a b) = two_children _ a b (λ x. Union x b) (λ x. Union a x)
        (simp (rolls-Union, leaves_read)) (λ x. simp leaves_read) (λ x. simp leaves_read)
    layer_yields (o.Join k c a b) = two_children _ a b (λ x. Join k c x b) (λ x. Join k c a x)
        (simp (rolls-Join, leaves_read)) (λ x. simp leaves_read) (λ x. simp leaves_read)
    layer_yields (o.Distinct a) = one_child _ a (λ x. Distinct x)
        (simp (rolls-Distinct, leaves_read)) (λ x. simp leaves_read)
    layer_yields (o.Group k h a) = one_child _ a (λ x. Group k h x)
        (simp (rolls-Group, leaves_read)) (λ x. simp leaves_read)
    layer_yields (o.Minus a b) = two_children _ a b (λ x. Minus x b) (λ x. Minus a x)
        (simp (rolls-Minus, leaves_read)) (λ x. simp leaves_read) (λ x. simp leaves_read)

  path_yields : (made : Plan → Option Plan) → Keeps s made → (path : List ℕ) (plan : Plan)
      → Yields (reads s plan) (rewritten_at made path plan)
  path_yields made h [] plan = yields_form _ _ (h plan)
  path_yields made h (i ∷ path) plan = subst
      (λ z. Yields (reads s z) (with_child i (rewritten_at made path) (out-Plan plan)))
      (roll-out-Plan plan) (layer_yields (rewritten_at made path) (path_yields made h path) i
      (out-Plan plan))

-- ---- steps and derivations

pub step_keeps : (ss : List (List Kind)) (step : Step) (old new : Plan) → Applies ss step old new
    → SameSources old new
step_keeps ss step old new a s = path_yields s (step_form ss step) (form_keeps s ss step) step.path
    old new a.rewritten

pub steps_keep : (ss : List (List Kind)) (old : Plan) (steps : List Step) (new : Plan)
    → Derives ss old steps new → SameSources old new
steps_keep ss old [] new same s = ap (reads s) same
steps_keep ss old (step ∷ steps) new d s = step_keeps ss step old d.0 d.1 s
    ∙ steps_keep ss d.0 steps new d.2 s
