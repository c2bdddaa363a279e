-- What each form of a rewriting rule makes reads the sources that the plan reads.
use Rattle.std.proofs.lemmas.Bool.{and_parts}
use Rattle.std.proofs.Common.{◌≡◌, ℕ, Bool, ◌&&◌, ◌||◌, List, refl, sym, ap, ◌∙◌}
use Rattle.std.proofs.Common.{Option, Some, None}
use Rattle.pipes_tuple.specs.declared.value.Kind.{Kind}
use Rattle.pipes_expr.specs.CodedEqual.{coded_eq-Decides}
use Rattle.pipes_expr.specs.declared.expr.Expr.{Expr}
use Rattle.pipes_relation.specs.declared.lists.Pair.{Pair}
use Rattle.pipes_plan.specs.declared.plan.Plan.{Plan}
use Rattle.pipes_rewrite.specs.Equalities.{same_plan}
use Rattle.pipes_rewrite.specs.FilterForms as forms
use Rattle.pipes_rewrite.specs.FilterForms.{plan_if}
use Rattle.pipes_rewrite.specs.JoinForms as joins
use Rattle.pipes_rewrite.specs.BagForms as bags
use Rattle.pipes_rule_sources.specs.Reads.{reads}
use Rattle.pipes_rule_sources.proofs.NodeReads.{Gives, leaves_read, gives_some, gives_none}
use Rattle.pipes_rule_sources.proofs.NodeReads.{gives_either, gives_if, gives_each, gives_where}
use Rattle.pipes_rule_sources.proofs.NodeReads.{gives_where_all, gives_filter, gives_map}
use Rattle.pipes_rule_sources.proofs.NodeReads.{gives_union, gives_join, gives_distinct}
use Rattle.pipes_rule_sources.proofs.NodeReads.{gives_group, gives_minus}

module _ (s : ℕ) where
  -- the form makes nothing but what reads the source exactly where the plan does
  abbrev pub Keeps : (Plan → Option Plan) → Type 0
  Keeps form = (plan : Plan) → Gives s (reads s plan) (form plan)

  -- nothing is read beside the plan itself
  abbrev alone : Bool → Bool
  alone v = v

  gives_out : (k : List Pair) (c : Expr) (a b : Plan) (o : Option (Expr × Expr))
      → Gives s (reads s a || reads s b) (forms.filter_out k c a b o)
  gives_out k c a b (Some x) = gives_some s _ _ (simp leaves_read)
  gives_out k c a b None = gives_either s _ _ _ _ (gives_none s _)
      (gives_some s _ _ (simp leaves_read))

  -- two joins with one side in common, which the last of the tests tells
  gives_shared : (f : Bool → Bool) (b : Bool) (x y made : Plan) → f (reads s x) ≡ reads s made
      → Gives s (f (reads s y)) (plan_if (b && same_plan x y) made)
  gives_shared f b x y made h = gives_if s _ _ made (λ t.
      let same : x ≡ y = (coded_eq-Decides _ x y).0 (and_parts b (same_plan x y) t).1 in
      ap (λ z. f (reads s z)) (sym same) ∙ h)

  -- ---- rules that move filters

  pub filter_merge_to_keeps : Keeps forms.filter_merge_to
  filter_merge_to_keeps = gives_filter s alone _ (λ p. gives_filter s alone _ (λ q a.
      gives_some s _ _ (simp leaves_read)))

  pub filter_merge_from_keeps : Keeps forms.filter_merge_from
  filter_merge_from_keeps = gives_filter s alone _ (λ r a. gives_each s _ _ _
      (λ x. simp leaves_read))

  pub filter_swap_to_keeps : Keeps forms.filter_swap_to
  filter_swap_to_keeps = gives_filter s alone _ (λ p. gives_filter s alone _ (λ q a.
      gives_some s _ _ (simp leaves_read)))

  pub filter_union_to_keeps : Keeps forms.filter_union_to
  filter_union_to_keeps = gives_filter s alone _ (λ p. gives_union s alone _ (λ a b.
      gives_some s _ _ (simp leaves_read)))

  pub filter_union_from_keeps : Keeps forms.filter_union_from
  filter_union_from_keeps = gives_union s alone _ (λ x y. gives_filter s (λ v. v || reads s y) _
      (λ p a. gives_filter s (λ v. reads s a || v) _ (λ q b. gives_if s _ _ _
      (λ t. simp leaves_read)) y) x)

  pub filter_distinct_to_keeps : Keeps forms.filter_distinct_to
  filter_distinct_to_keeps = gives_filter s alone _ (λ p. gives_distinct s alone _ (λ a.
      gives_some s _ _ (simp leaves_read)))

  pub filter_distinct_from_keeps : Keeps forms.filter_distinct_from
  filter_distinct_from_keeps = gives_distinct s alone _ (gives_filter s alone _ (λ p a.
      gives_some s _ _ (simp leaves_read)))

  pub filter_minus_to_keeps : Keeps forms.filter_minus_to
  filter_minus_to_keeps = gives_filter s alone _ (λ p. gives_minus s alone _ (λ a b.
      gives_some s _ _ (simp leaves_read)))

  pub filter_minus_from_keeps : Keeps forms.filter_minus_from
  filter_minus_from_keeps = gives_minus s alone _ (λ x y. gives_filter s (λ v. v || reads s y) _
      (λ p a. gives_filter s (λ v. reads s a || v) _ (λ q b. gives_if s _ _ _
      (λ t. simp leaves_read)) y) x)

  pub filter_map_to_keeps : Keeps forms.filter_map_to
  filter_map_to_keeps = gives_filter s alone _ (λ p. gives_map s alone _ (λ es a.
      gives_each s _ _ _ (λ x. simp leaves_read)))

  pub filter_map_from_keeps : (p : Expr) → Keeps (forms.filter_map_from p)
  filter_map_from_keeps p = gives_map s alone _ (λ es. gives_filter s alone _ (λ q a.
      gives_where s _ _ q _ (simp leaves_read)))

  pub filter_left_to_keeps : (ss : List (List Kind)) → Keeps (forms.filter_left_to ss)
  filter_left_to_keeps ss = gives_filter s alone _ (λ p. gives_join s alone _ (λ k c a b.
      gives_each s _ _ _ (λ x. simp leaves_read)))

  pub filter_left_from_keeps : (ss : List (List Kind)) → Keeps (forms.filter_left_from ss)
  filter_left_from_keeps ss = gives_join s alone _ (λ k c x b.
      gives_filter s (λ v. v || reads s b) _ (λ q a. gives_each s _ _ _
      (λ x. simp leaves_read)) x)

  pub filter_right_to_keeps : (ss : List (List Kind)) → Keeps (forms.filter_right_to ss)
  filter_right_to_keeps ss = gives_filter s alone _ (λ p. gives_join s alone _ (λ k c a b.
      gives_each s _ _ _ (λ x. simp leaves_read)))

  pub filter_right_from_keeps : (ss : List (List Kind)) → Keeps (forms.filter_right_from ss)
  filter_right_from_keeps ss = gives_join s alone _ (λ k c a.
      gives_filter s (λ v. reads s a || v) _ (λ q b. gives_each s _ _ _ (λ x. simp leaves_read)))

  pub filter_cond_to_keeps : Keeps forms.filter_cond_to
  filter_cond_to_keeps = gives_filter s alone _ (λ p. gives_join s alone _ (λ k c a b.
      gives_some s _ _ (simp leaves_read)))

  pub filter_cond_from_keeps : Keeps forms.filter_cond_from
  filter_cond_from_keeps = gives_join s alone _ (λ k c a b. gives_out k c a b _)

  pub filter_group_to_keeps : Keeps forms.filter_group_to
  filter_group_to_keeps = gives_filter s alone _ (λ p. gives_group s alone _ (λ k g a.
      gives_each s _ _ _ (λ x. simp leaves_read)))

  pub filter_group_from_keeps : (p : Expr) → Keeps (forms.filter_group_from p)
  filter_group_from_keeps p = gives_group s alone _ (λ k g. gives_filter s alone _ (λ q a.
      gives_where s _ _ q _ (simp leaves_read)))

  pub filter_true_to_keeps : Keeps forms.filter_true_to
  filter_true_to_keeps = gives_filter s alone _ (λ p a. gives_if s _ _ _ (λ t. refl))

  pub filter_true_from_keeps : Keeps forms.filter_true_from
  filter_true_from_keeps = λ a. gives_some s _ _ (simp leaves_read)

  -- ---- rules that move joins

  pub join_commute_to_keeps : (ss : List (List Kind)) → Keeps (joins.join_commute_to ss)
  join_commute_to_keeps ss = gives_join s alone _ (λ k c a b. gives_each s _ _ _
      (λ x. simp leaves_read))

  pub join_commute_from_keeps : (ss : List (List Kind)) → Keeps (joins.join_commute_from ss)
  join_commute_from_keeps ss = gives_map s alone _ (λ es. gives_join s alone _ (λ k c b a.
      gives_either s _ _ _ _ (gives_each s _ _ _ (λ x. simp leaves_read)) (gives_none s _)))

  pub join_assoc_to_keeps : (ss : List (List Kind)) → Keeps (joins.join_assoc_to ss)
  join_assoc_to_keeps ss = gives_join s alone _ (λ k c x z. gives_join s (λ v. v || reads s z) _
      (λ l d a b. gives_some s _ _ (simp leaves_read)) x)

  pub join_assoc_from_keeps : (ss : List (List Kind)) → Keeps (joins.join_assoc_from ss)
  join_assoc_from_keeps ss = gives_join s alone _ (λ k c a y. gives_join s (λ v. reads s a || v) _
      (λ n d b z. gives_each s _ _ _ (λ x. simp leaves_read)) y)

  pub join_union_to_keeps : Keeps joins.join_union_to
  join_union_to_keeps = gives_join s alone _ (λ k c x z. gives_union s (λ v. v || reads s z) _
      (λ a b. gives_some s _ _ (simp leaves_read)) x)

  pub join_union_from_keeps : Keeps joins.join_union_from
  join_union_from_keeps = gives_union s alone _ (λ x y. gives_join s (λ v. v || reads s y) _
      (λ k c a z. gives_join s (λ v. (reads s a || reads s z) || v) _ (λ l d b w.
      gives_shared (λ v. (reads s a || reads s z) || (reads s b || v)) _ z w _
      (simp leaves_read)) y) x)

  pub join_union_right_to_keeps : Keeps joins.join_union_right_to
  join_union_right_to_keeps = gives_join s alone _ (λ k c a y.
      gives_union s (λ v. reads s a || v) _ (λ b z. gives_some s _ _ (simp leaves_read)) y)

  pub join_union_right_from_keeps : Keeps joins.join_union_right_from
  join_union_right_from_keeps = gives_union s alone _ (λ x y. gives_join s (λ v. v || reads s y) _
      (λ k c a b. gives_join s (λ v. (reads s a || reads s b) || v) _ (λ l d w z.
      gives_shared (λ v. (reads s a || reads s b) || (v || reads s z)) _ a w _
      (simp leaves_read)) y) x)

  pub distinct_join_to_keeps : Keeps joins.distinct_join_to
  distinct_join_to_keeps = gives_distinct s alone _ (gives_join s alone _ (λ k c a b.
      gives_some s _ _ (simp leaves_read)))

  pub distinct_join_from_keeps : Keeps joins.distinct_join_from
  distinct_join_from_keeps = gives_join s alone _ (λ k c x y.
      gives_distinct s (λ v. v || reads s y) _ (λ a. gives_distinct s (λ v. reads s a || v) _
      (λ b. gives_some s _ _ (simp leaves_read)) y) x)

  -- ---- rules of unions, differences, distinct rows, maps and groups

  pub union_commute_to_keeps : Keeps bags.union_commute_to
  union_commute_to_keeps = gives_union s alone _ (λ a b. gives_some s _ _ (simp leaves_read))

  pub union_assoc_to_keeps : Keeps bags.union_assoc_to
  union_assoc_to_keeps = gives_union s alone _ (λ x c. gives_union s (λ v. v || reads s c) _
      (λ a b. gives_some s _ _ (simp leaves_read)) x)

  pub union_assoc_from_keeps : Keeps bags.union_assoc_from
  union_assoc_from_keeps = gives_union s alone _ (λ a. gives_union s (λ v. reads s a || v) _
      (λ b c. gives_some s _ _ (simp leaves_read)))

  pub minus_assoc_to_keeps : Keeps bags.minus_assoc_to
  minus_assoc_to_keeps = gives_minus s alone _ (λ x c. gives_minus s (λ v. v || reads s c) _
      (λ a b. gives_some s _ _ (simp leaves_read)) x)

  pub minus_assoc_from_keeps : Keeps bags.minus_assoc_from
  minus_assoc_from_keeps = gives_minus s alone _ (λ a. gives_union s (λ v. reads s a || v) _
      (λ b c. gives_some s _ _ (simp leaves_read)))

  pub distinct_twice_to_keeps : Keeps bags.distinct_twice_to
  distinct_twice_to_keeps = gives_distinct s alone _ (gives_distinct s alone _ (λ a.
      gives_some s _ _ (simp leaves_read)))

  pub distinct_twice_from_keeps : Keeps bags.distinct_twice_from
  distinct_twice_from_keeps = gives_distinct s alone _ (λ a. gives_some s _ _ (simp leaves_read))

  pub distinct_union_to_keeps : Keeps bags.distinct_union_to
  distinct_union_to_keeps = gives_distinct s alone _ (gives_union s alone _ (λ a b.
      gives_some s _ _ (simp leaves_read)))

  pub distinct_union_from_keeps : Keeps bags.distinct_union_from
  distinct_union_from_keeps = gives_distinct s alone _ (gives_union s alone _ (λ x y.
      gives_distinct s (λ v. v || reads s y) _ (λ a. gives_distinct s (λ v. reads s a || v) _
      (λ b. gives_some s _ _ (simp leaves_read)) y) x))

  pub distinct_group_to_keeps : Keeps bags.distinct_group_to
  distinct_group_to_keeps = gives_distinct s alone _ (gives_group s alone _ (λ k g a.
      gives_some s _ _ (simp leaves_read)))

  pub distinct_group_from_keeps : Keeps bags.distinct_group_from
  distinct_group_from_keeps = gives_group s alone _ (λ k g a. gives_some s _ _ (simp leaves_read))

  pub distinct_map_to_keeps : Keeps bags.distinct_map_to
  distinct_map_to_keeps = gives_distinct s alone _ (gives_map s alone _ (λ es.
      gives_distinct s alone _ (λ a. gives_some s _ _ (simp leaves_read))))

  pub distinct_map_from_keeps : Keeps bags.distinct_map_from
  distinct_map_from_keeps = gives_distinct s alone _ (gives_map s alone _ (λ es a.
      gives_some s _ _ (simp leaves_read)))

  pub map_merge_to_keeps : Keeps bags.map_merge_to
  map_merge_to_keeps = gives_map s alone _ (λ es. gives_map s alone _ (λ fs a. gives_each s _ _ _
      (λ x. simp leaves_read)))

  pub map_merge_from_keeps : (es fs : List Expr) → Keeps (bags.map_merge_from es fs)
  map_merge_from_keeps es fs = gives_map s alone _ (λ gs a.
      gives_where_all s _ _ gs _ (simp leaves_read))

  pub map_union_to_keeps : Keeps bags.map_union_to
  map_union_to_keeps = gives_map s alone _ (λ es. gives_union s alone _ (λ a b.
      gives_some s _ _ (simp leaves_read)))

  pub map_union_from_keeps : Keeps bags.map_union_from
  map_union_from_keeps = gives_union s alone _ (λ x y. gives_map s (λ v. v || reads s y) _
      (λ es a. gives_map s (λ v. reads s a || v) _ (λ fs b. gives_if s _ _ _
      (λ t. simp leaves_read)) y) x)

  pub group_distinct_to_keeps : Keeps bags.group_distinct_to
  group_distinct_to_keeps = gives_group s alone _ (λ k g. gives_distinct s alone _ (λ a.
      gives_if s _ _ _ (λ t. simp leaves_read)))

  pub group_distinct_from_keeps : Keeps bags.group_distinct_from
  group_distinct_from_keeps = gives_group s alone _ (λ k g a. gives_if s _ _ _
      (λ t. simp leaves_read))
