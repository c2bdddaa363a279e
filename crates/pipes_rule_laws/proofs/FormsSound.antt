-- What a form makes of a typed plan means the same, where it is typed too.
use Rattle.std.proofs.lemmas.Bool.{and_parts}
use Rattle.std.proofs.Common.{◌≡◌, ℕ, Bool, true, false, ◌&&◌, List, refl, sym, ap, ◌∙◌, subst}
use Rattle.std.proofs.Common.{cond, Option, Some, None}
use Rattle.std.specs.Option.{option_map}
use Rattle.std.specs.Bool.{Decides}
use Rattle.pipes_tuple.specs.declared.value.Kind.{Kind}
use Rattle.pipes_expr.specs.CodedEqual.{coded_eq-Decides}
use Rattle.pipes_expr.specs.declared.op.Op.{Op}
use Rattle.pipes_expr.specs.declared.op.Op.TheVariants as op
use Rattle.pipes_expr.specs.declared.expr.Expr.{Expr}
use Rattle.pipes_expr.specs.declared.expr.Expr.TheVariants.{Binary}
use Rattle.pipes_expr.specs.ExprValue.{passes}
use Rattle.pipes_relation.specs.declared.lists.Pair.{Pair}
use Rattle.pipes_plan.specs.declared.plan.Plan.{Plan}
use Rattle.pipes_plan.specs.declared.plan.Plan.TheVariants.{Filter, Map, Union, Join, Distinct}
use Rattle.pipes_plan.specs.declared.plan.Plan.TheVariants.{Group, Minus}
use Rattle.pipes_plan.proofs.SameLists as lists
use Rattle.pipes_rewrite.specs.Changes.{raise_by, lower_by, only_below, exchange_sides, column_in}
use Rattle.pipes_rewrite.specs.Changes.{raised, lowered, kept_below, turned}
use Rattle.pipes_rewrite.specs.Changes.{expr_in, expr_changed}
use Rattle.pipes_rewrite.specs.Changes.{exprs_changed, is_truth, truth, conjunction}
use Rattle.pipes_rewrite.specs.Equalities.{same_expr, same_plan, same_exprs, same_pairs}
use Rattle.pipes_rewrite.specs.Widths.{width}
use Rattle.pipes_rewrite.specs.Nodes.{in_binary}
use Rattle.pipes_rewrite.specs.FilterForms as forms
use Rattle.pipes_rewrite.specs.FilterForms.{plan_if, plan_where, conjuncts, filter_out}
use Rattle.pipes_rewrite.specs.JoinForms as joins
use Rattle.pipes_rewrite.specs.JoinForms.{swapped, restored}
use Rattle.pipes_rewrite.specs.BagForms as bags
use Rattle.pipes_rewrite.specs.BagForms.{plan_where_all, all_extremes}
use Rattle.pipes_rewrite.specs.SameMeaning.{Alike}
use Rattle.pipes_rule_laws.proofs.Parts.{of_filter, of_map, of_union, of_join, of_distinct}
use Rattle.pipes_rule_laws.proofs.Parts.{of_group}
use Rattle.pipes_rule_laws.proofs.Parts.{of_minus, of_binary}
use Rattle.pipes_rewrite.proofs.ChangedValues.{is_there}
use Rattle.pipes_rule_laws.proofs.Same.{alike-sym}
use Rattle.pipes_rule_laws.proofs.FilterSound.{passes-And, merge_alike, swap_alike}
use Rattle.pipes_rule_laws.proofs.FilterSound.{filter_union_alike}
use Rattle.pipes_rule_laws.proofs.FilterSound.{filter_distinct_alike, filter_minus_alike}
use Rattle.pipes_rule_laws.proofs.FilterSound.{filter_map_alike, filter_true_alike}
use Rattle.pipes_rule_laws.proofs.BagSound.{union_commute_alike, union_assoc_alike}
use Rattle.pipes_rule_laws.proofs.BagSound.{minus_assoc_alike, distinct_twice_alike}
use Rattle.pipes_rule_laws.proofs.BagSound.{distinct_union_alike, map_union_alike}
use Rattle.pipes_rule_laws.proofs.MadeSound.{map_merge_alike, distinct_map_alike}
use Rattle.pipes_rule_laws.proofs.MadeSound.{distinct_group_alike, group_distinct_alike}
use Rattle.pipes_rule_laws.proofs.GroupSound.{filter_group_alike}
use Rattle.pipes_rule_laws.proofs.JoinSound.{truth_is, passes-truth, passes-conjunction}
use Rattle.pipes_rule_laws.proofs.JoinSound.{filter_left_alike, filter_left_back_alike}
use Rattle.pipes_rule_laws.proofs.JoinSound.{filter_right_alike, filter_right_back_alike}
use Rattle.pipes_rule_laws.proofs.JoinSound.{filter_cond_alike, join_union_alike}
use Rattle.pipes_rule_laws.proofs.JoinSound.{join_union_right_alike}
use Rattle.pipes_rule_laws.proofs.SideSound.{join_commute_alike, join_commute_back_alike}
use Rattle.pipes_rule_laws.proofs.AssocSound.{join_assoc_alike, join_assoc_back_alike}
use Rattle.pipes_rule_laws.proofs.ThinSound.{distinct_join_alike}

some_plan : {a b : Plan} → Some a ≡ Some b → a ≡ b
some_plan h = cc

if_is : (b : Bool) (plan new : Plan) → plan_if b plan ≡ Some new → (b ≡ true) × (plan ≡ new)
if_is true plan new h = (refl, cc)
if_is false plan new h = cc

where_is : (o : Option Expr) (y : Expr) (plan new : Plan) → plan_where o y plan ≡ Some new
    → (o ≡ Some y) × (plan ≡ new)
where_is (Some x) y plan new h =
    let w = if_is (same_expr x y) plan new h in
    (ap Some ((coded_eq-Decides _ x y).0 w.0), w.1)
where_is None y plan new h = cc

where_all_is : (o : Option (List Expr)) (ys : List Expr) (plan new : Plan)
    → plan_where_all o ys plan ≡ Some new → (o ≡ Some ys) × (plan ≡ new)
where_all_is (Some xs) ys plan new h =
    let w = if_is (same_exprs xs ys) plan new h in
    (ap Some ((lists.same_exprs xs ys).0 w.0), w.1)
where_all_is None ys plan new h = cc

expr_is : (p q : Expr) → same_expr p q ≡ true → p ≡ q
expr_is p q h = (coded_eq-Decides _ p q).0 h

plan_is : (a b : Plan) → same_plan a b ≡ true → a ≡ b
plan_is a b h = (coded_eq-Decides _ a b).0 h

module _ (ss : List (List Kind)) where
  -- the form is this plan
  form_is : (old made new : Plan) → Alike ss old made → Some made ≡ Some new → Alike ss old new
  form_is old made new h e = subst (λ z. Alike ss old z) (some_plan e) h

  is_made : (old made new : Plan) → Alike ss old made → made ≡ new → Alike ss old new
  is_made old made new h e = subst (λ z. Alike ss old z) e h

  back_made : (old made new : Plan) → Alike ss made old → made ≡ new → Alike ss old new
  back_made old made new h e = is_made old made new (alike-sym ss made old h) e

  -- ---- forms with a choice

  conjuncts_are : (o : Op) (p q c d : Expr) → conjuncts o p q ≡ Some (c, d)
      → Binary o p q ≡ Binary op.And c d
  conjuncts_are op.And p q c d h =
      let e : (p, q) ≡ (c, d) = cc in
      ap (λ (s : Expr × Expr). Binary op.And s.0 s.1) e
  conjuncts_are op.Add p q c d h = absurd cc
  conjuncts_are op.Sub p q c d h = absurd cc
  conjuncts_are op.Mul p q c d h = absurd cc
  conjuncts_are op.Eq p q c d h = absurd cc
  conjuncts_are op.Lt p q c d h = absurd cc
  conjuncts_are op.Le p q c d h = absurd cc
  conjuncts_are op.Or p q c d h = absurd cc

  conjunction_is : (r c d : Expr) → in_binary conjuncts r ≡ Some (c, d) → r ≡ Binary op.And c d
  conjunction_is r c d h = of_binary (λ (z : Expr). z ≡ Binary op.And c d) (c, d) conjuncts
      (λ o p q e. conjuncts_are o p q c d e) r h

  merge_parts : (r : Expr) (a new : Plan)
      → option_map (λ s. Filter s.0 (Filter s.1 a)) (in_binary conjuncts r) ≡ Some new
      → Alike ss (Filter r a) new
  merge_parts r a new e =
      let w = is_there (λ s. Filter s.0 (Filter s.1 a)) (in_binary conjuncts r) new e in
      subst (λ z. Alike ss (Filter z a) new) (sym (conjunction_is r w.0.0 w.0.1 w.1))
      (back_made _ _ new (merge_alike ss w.0.0 w.0.1 a) w.2)

  cond_parts : (k : List Pair) (c : Expr) (a b new : Plan) (o : Option (Expr × Expr))
      → o ≡ in_binary conjuncts c → filter_out k c a b o ≡ Some new → Alike ss (Join k c a b) new
  cond_parts k c a b new (Some s) f e =
      subst (λ z. Alike ss (Join k z a b) new) (sym (conjunction_is c s.0 s.1 (sym f)))
      (back_made _ _ new (filter_cond_alike ss k s.0 (Binary op.And s.0 s.1) s.1 a b
      (passes-And s.0 s.1)) (some_plan e))
  cond_parts k c a b new None f e = go (is_truth c) e where
    go : (t : Bool) → cond t None (Some (Filter c (Join k truth a b))) ≡ Some new
        → Alike ss (Join k c a b) new
    go true e = cc
    go false e = back_made _ _ new (filter_cond_alike ss k truth c c a b
        (λ row. sym (ap (λ t. t && passes c row) (passes-truth row)))) (some_plan e)

  commute_parts : (es : List Expr) (k : List Pair) (c : Expr) (a b new : Plan) (t : Bool)
      → t ≡ same_exprs es (restored (width ss a) (width ss b))
      → cond t (option_map (λ d. Join (swapped k) d a b)
      (expr_changed (exchange_sides (width ss b) (width ss a)) c)) None ≡ Some new
      → Alike ss (Map es (Join k c b a)) new
  commute_parts es k c a b new true f e =
      let w = is_there (λ d. Join (swapped k) d a b)
      (expr_changed (exchange_sides (width ss b) (width ss a)) c) new e in
      subst (λ z. Alike ss (Map z (Join k c b a)) new)
      (sym ((lists.same_exprs es (restored (width ss a) (width ss b))).0 (sym f)))
      (back_made _ _ new (join_commute_back_alike ss k c w.0 a b w.1) w.2)
  commute_parts es k c a b new false f e = cc

  same_joins_left : (k l : List Pair) (c d : Expr) (a b x y new : Plan)
      → (same_pairs k l && same_expr c d && same_plan x y) ≡ true
      → Join k c (Union a b) x ≡ new → Alike ss (Union (Join k c a x) (Join l d b y)) new
  same_joins_left k l c d a b x y new h e =
      let w = and_parts (same_pairs k l && same_expr c d) (same_plan x y) h in
      let v = and_parts (same_pairs k l) (same_expr c d) w.0 in
      subst (λ z. Alike ss (Union (Join k c a x) (Join z d b y)) new)
      ((lists.same_pairs k l).0 v.0)
      (subst (λ z. Alike ss (Union (Join k c a x) (Join k z b y)) new) (expr_is c d v.1)
      (subst (λ z. Alike ss (Union (Join k c a x) (Join k c b z)) new) (plan_is x y w.1)
      (back_made _ _ new (join_union_alike ss k c a b x) e)))

  same_joins_right : (k l : List Pair) (c d : Expr) (a a' b b' new : Plan)
      → (same_pairs k l && same_expr c d && same_plan a a') ≡ true
      → Join k c a (Union b b') ≡ new → Alike ss (Union (Join k c a b) (Join l d a' b')) new
  same_joins_right k l c d a a' b b' new h e =
      let w = and_parts (same_pairs k l && same_expr c d) (same_plan a a') h in
      let v = and_parts (same_pairs k l) (same_expr c d) w.0 in
      subst (λ z. Alike ss (Union (Join k c a b) (Join z d a' b')) new)
      ((lists.same_pairs k l).0 v.0)
      (subst (λ z. Alike ss (Union (Join k c a b) (Join k z a' b')) new) (expr_is c d v.1)
      (subst (λ z. Alike ss (Union (Join k c a b) (Join k c z b')) new) (plan_is a a' w.1)
      (back_made _ _ new (join_union_right_alike ss k c a b b') e)))

  -- ---- each form

  pub filter_merge_to_sound : (old new : Plan) → forms.filter_merge_to old ≡ Some new
      → Alike ss old new
  filter_merge_to_sound old new e =
      of_filter (λ (z : Plan). Alike ss z new) new _ (λ p x e1. of_filter
      (λ (z : Plan). Alike ss (Filter p z) new) new _ (λ q a e2. form_is _ _ new
      (merge_alike ss p q a) e2) x e1) old e

  pub filter_merge_from_sound : (old new : Plan) → forms.filter_merge_from old ≡ Some new
      → Alike ss old new
  filter_merge_from_sound old new e =
      of_filter (λ (z : Plan). Alike ss z new) new _ (λ r a e1. merge_parts r a new e1) old e

  pub filter_swap_to_sound : (old new : Plan) → forms.filter_swap_to old ≡ Some new
      → Alike ss old new
  filter_swap_to_sound old new e =
      of_filter (λ (z : Plan). Alike ss z new) new _ (λ p x e1. of_filter
      (λ (z : Plan). Alike ss (Filter p z) new) new _ (λ q a e2. form_is _ _ new
      (swap_alike ss p q a) e2) x e1) old e

  pub filter_union_to_sound : (old new : Plan) → forms.filter_union_to old ≡ Some new
      → Alike ss old new
  filter_union_to_sound old new e =
      of_filter (λ (z : Plan). Alike ss z new) new _ (λ p x e1. of_union
      (λ (z : Plan). Alike ss (Filter p z) new) new _ (λ a b e2. form_is _ _ new
      (filter_union_alike ss p a b) e2) x e1) old e

  pub filter_union_from_sound : (old new : Plan) → forms.filter_union_from old ≡ Some new
      → Alike ss old new
  filter_union_from_sound old new e =
      of_union (λ (z : Plan). Alike ss z new) new _ (λ x y e1. of_filter
      (λ (z : Plan). Alike ss (Union z y) new) new _ (λ p a e2. of_filter
      (λ (z : Plan). Alike ss (Union (Filter p a) z) new) new _
      (λ q b e3. let w = if_is (same_expr p q) _ new e3 in subst
      (λ s. Alike ss (Union (Filter p a) (Filter s b)) new) (expr_is p q w.0)
      (back_made _ _ new (filter_union_alike ss p a b) w.1)) y e2) x e1) old e

  pub filter_distinct_to_sound : (old new : Plan) → forms.filter_distinct_to old ≡ Some new
      → Alike ss old new
  filter_distinct_to_sound old new e =
      of_filter (λ (z : Plan). Alike ss z new) new _ (λ p x e1. of_distinct
      (λ (z : Plan). Alike ss (Filter p z) new) new _ (λ a e2. form_is _ _ new
      (filter_distinct_alike ss p a) e2) x e1) old e

  pub filter_distinct_from_sound : (old new : Plan) → forms.filter_distinct_from old ≡ Some new
      → Alike ss old new
  filter_distinct_from_sound old new e =
      of_distinct (λ (z : Plan). Alike ss z new) new _ (λ x e1. of_filter
      (λ (z : Plan). Alike ss (Distinct z) new) new _ (λ p a e2. back_made _ _ new
      (filter_distinct_alike ss p a) (some_plan e2)) x e1) old e

  pub filter_minus_to_sound : (old new : Plan) → forms.filter_minus_to old ≡ Some new
      → Alike ss old new
  filter_minus_to_sound old new e =
      of_filter (λ (z : Plan). Alike ss z new) new _ (λ p x e1. of_minus
      (λ (z : Plan). Alike ss (Filter p z) new) new _ (λ a b e2. form_is _ _ new
      (filter_minus_alike ss p a b) e2) x e1) old e

  pub filter_minus_from_sound : (old new : Plan) → forms.filter_minus_from old ≡ Some new
      → Alike ss old new
  filter_minus_from_sound old new e =
      of_minus (λ (z : Plan). Alike ss z new) new _ (λ x y e1. of_filter
      (λ (z : Plan). Alike ss (Minus z y) new) new _ (λ p a e2. of_filter
      (λ (z : Plan). Alike ss (Minus (Filter p a) z) new) new _
      (λ q b e3. let w = if_is (same_expr p q) _ new e3 in subst
      (λ s. Alike ss (Minus (Filter p a) (Filter s b)) new) (expr_is p q w.0)
      (back_made _ _ new (filter_minus_alike ss p a b) w.1)) y e2) x e1) old e

  pub filter_map_to_sound : (old new : Plan) → forms.filter_map_to old ≡ Some new → Alike ss old new
  filter_map_to_sound old new e =
      of_filter (λ (z : Plan). Alike ss z new) new _ (λ p x e1. of_map
      (λ (z : Plan). Alike ss (Filter p z) new) new _ (λ es a e2. let w = is_there
      (λ q. Map es
      (Filter q a)) (expr_changed (expr_in es) p) new e2 in is_made _ _ new
      (filter_map_alike ss p w.0 es a w.1) w.2) x e1) old e

  pub filter_map_from_sound : (p : Expr) (old new : Plan) → forms.filter_map_from p old ≡ Some new
      → Alike ss old new
  filter_map_from_sound p old new e =
      of_map (λ (z : Plan). Alike ss z new) new _ (λ es x e1. of_filter
      (λ (z : Plan). Alike ss (Map es z) new) new _ (λ q a e2. let w = where_is
      (expr_changed (expr_in es)
      p) q _ new e2 in back_made _ _ new (filter_map_alike ss p q es a w.0) w.1) x e1) old e

  pub filter_left_to_sound : (old new : Plan) → forms.filter_left_to ss old ≡ Some new
      → Alike ss old new
  unfolding kept_below
  filter_left_to_sound old new e =
      of_filter (λ (z : Plan). Alike ss z new) new _ (λ p x e1. of_join
      (λ (z : Plan). Alike ss (Filter p z) new) new _ (λ k c a b e2. let w = is_there
      (λ q. Join k c
      (Filter q a) b) (expr_changed (only_below (width ss a)) p) new e2 in is_made _ _ new
      (filter_left_alike ss k c p w.0 a b w.1) w.2) x e1) old e

  pub filter_left_from_sound : (old new : Plan) → forms.filter_left_from ss old ≡ Some new
      → Alike ss old new
  unfolding kept_below
  filter_left_from_sound old new e =
      of_join (λ (z : Plan). Alike ss z new) new _ (λ k c x b e1. of_filter
      (λ (z : Plan). Alike ss (Join k c z b) new) new _ (λ q a e2. let w = is_there
      (λ p. Filter p
      (Join k c a b)) (expr_changed (only_below (width ss a)) q) new e2 in is_made _ _ new
      (filter_left_back_alike ss k c w.0 q a b w.1) w.2) x e1) old e

  pub filter_right_to_sound : (old new : Plan) → forms.filter_right_to ss old ≡ Some new
      → Alike ss old new
  unfolding lowered
  filter_right_to_sound old new e =
      of_filter (λ (z : Plan). Alike ss z new) new _ (λ p x e1. of_join
      (λ (z : Plan). Alike ss (Filter p z) new) new _ (λ k c a b e2. let w = is_there
      (λ q. Join k c a
      (Filter q b)) (expr_changed (lower_by (width ss a)) p) new e2 in is_made _ _ new
      (filter_right_alike ss k c p w.0 a b w.1) w.2) x e1) old e

  pub filter_right_from_sound : (old new : Plan) → forms.filter_right_from ss old ≡ Some new
      → Alike ss old new
  unfolding raised
  filter_right_from_sound old new e =
      of_join (λ (z : Plan). Alike ss z new) new _ (λ k c a y e1. of_filter
      (λ (z : Plan). Alike ss (Join k c a z) new) new _ (λ q b e2. let w = is_there
      (λ p. Filter p
      (Join k c a b)) (expr_changed (raise_by (width ss a)) q) new e2 in is_made _ _ new
      (filter_right_back_alike ss k c w.0 q a b w.1) w.2) y e1) old e

  pub filter_cond_to_sound : (old new : Plan) → forms.filter_cond_to old ≡ Some new
      → Alike ss old new
  filter_cond_to_sound old new e =
      of_filter (λ (z : Plan). Alike ss z new) new _ (λ p x e1. of_join
      (λ (z : Plan). Alike ss (Filter p z) new) new _ (λ k c a b e2. form_is _ _ new
      (filter_cond_alike ss k c (conjunction c p) p a b (passes-conjunction c p)) e2) x e1) old
      e

  pub filter_cond_from_sound : (old new : Plan) → forms.filter_cond_from old ≡ Some new
      → Alike ss old new
  filter_cond_from_sound old new e =
      of_join (λ (z : Plan). Alike ss z new) new _ (λ k c a b e1. cond_parts k c a b new
      (in_binary conjuncts c) refl e1) old e

  pub filter_group_to_sound : (old new : Plan) → forms.filter_group_to old ≡ Some new
      → Alike ss old new
  filter_group_to_sound old new e =
      of_filter (λ (z : Plan). Alike ss z new) new _ (λ p x e1. of_group
      (λ (z : Plan). Alike ss (Filter p z) new) new _ (λ k g a e2. let w = is_there
      (λ q. Group k g
      (Filter q a)) (expr_changed (column_in k) p) new e2 in is_made _ _ new
      (filter_group_alike ss k g p w.0 a w.1) w.2) x e1) old e

  pub filter_group_from_sound : (p : Expr) (old new : Plan) → forms.filter_group_from p old ≡ Some
      new → Alike ss old new
  filter_group_from_sound p old new e =
      of_group (λ (z : Plan). Alike ss z new) new _ (λ k g x e1. of_filter
      (λ (z : Plan). Alike ss (Group k g z) new) new _ (λ q a e2. let w = where_is
      (expr_changed
      (column_in k) p) q _ new e2 in back_made _ _ new (filter_group_alike ss k g p q a w.0)
      w.1) x
      e1) old e

  pub filter_true_to_sound : (old new : Plan) → forms.filter_true_to old ≡ Some new
      → Alike ss old new
  filter_true_to_sound old new e =
      of_filter (λ (z : Plan). Alike ss z new) new _ (λ p a e1. let w = if_is (is_truth p) a new
      e1 in subst
      (λ q. Alike ss (Filter q a) new) (sym (truth_is p w.0))
      (is_made _ _ new (filter_true_alike ss a) w.1)) old e

  pub filter_true_from_sound : (old new : Plan) → forms.filter_true_from old ≡ Some new
      → Alike ss old new
  filter_true_from_sound old new e =
      back_made old (Filter truth old) new (filter_true_alike ss old) (some_plan e)

  pub join_commute_to_sound : (old new : Plan) → joins.join_commute_to ss old ≡ Some new
      → Alike ss old new
  unfolding turned
  join_commute_to_sound old new e =
      of_join (λ (z : Plan). Alike ss z new) new _ (λ k c a b e1. let w = is_there
      (λ d. Map
      (restored (width ss a) (width ss b)) (Join (swapped k) d b a))
      (expr_changed (exchange_sides (width ss a) (width ss b)) c) new e1 in is_made _ _ new
      (join_commute_alike ss k c w.0 a b w.1) w.2) old e

  pub join_commute_from_sound : (old new : Plan) → joins.join_commute_from ss old ≡ Some new
      → Alike ss old new
  unfolding turned
  join_commute_from_sound old new e =
      of_map (λ (z : Plan). Alike ss z new) new _ (λ es x e1. of_join
      (λ (z : Plan). Alike ss (Map es z) new) new _ (λ k c b a e2. commute_parts es k c a b new
      (same_exprs es (restored (width ss a) (width ss b))) refl e2) x e1) old e

  pub join_assoc_to_sound : (old new : Plan) → joins.join_assoc_to ss old ≡ Some new
      → Alike ss old new
  join_assoc_to_sound old new e =
      of_join (λ (z : Plan). Alike ss z new) new _ (λ k1 c1 x c e1. of_join
      (λ (z : Plan). Alike ss (Join k1 c1 z c) new) new _
      (λ k2 c2 a b e2. form_is _ _ new (join_assoc_alike ss k1 k2 c1 c2 a b c) e2) x e1) old e

  pub join_assoc_from_sound : (old new : Plan) → joins.join_assoc_from ss old ≡ Some new
      → Alike ss old new
  unfolding raised
  join_assoc_from_sound old new e =
      of_join (λ (z : Plan). Alike ss z new) new _ (λ k c a y e1. of_join
      (λ (z : Plan). Alike ss (Join k c a z) new) new _ (λ n d b u e2. let w = is_there
      (λ f. Join
      (joins.far_pairs (width ss a) (width ss b) n k) (conjunction c f)
      (Join (joins.near_pairs (width ss b) k) truth a b) u)
      (expr_changed (raise_by (width ss a)) d)
      new e2 in is_made _ _ new (join_assoc_back_alike ss k n c d w.0 a b u w.1) w.2) y e1) old
      e

  pub join_union_to_sound : (old new : Plan) → joins.join_union_to old ≡ Some new → Alike ss old new
  join_union_to_sound old new e =
      of_join (λ (z : Plan). Alike ss z new) new _ (λ k c x y e1. of_union
      (λ (z : Plan). Alike ss (Join k c z y) new) new _ (λ a b e2. form_is _ _ new
      (join_union_alike ss k c a b y) e2) x e1) old e

  pub join_union_from_sound : (old new : Plan) → joins.join_union_from old ≡ Some new
      → Alike ss old new
  join_union_from_sound old new e =
      of_union (λ (z : Plan). Alike ss z new) new _ (λ x y e1. of_join
      (λ (z : Plan). Alike ss (Union z y) new) new _ (λ k c a x' e2. of_join
      (λ (z : Plan). Alike ss (Union (Join k c a x') z) new) new _
      (λ l d b y' e3. let w = if_is _ _ new e3 in same_joins_left k l c d a b x' y' new w.0 w.1)
      y e2) x e1) old e

  pub join_union_right_to_sound : (old new : Plan) → joins.join_union_right_to old ≡ Some new
      → Alike ss old new
  join_union_right_to_sound old new e =
      of_join (λ (z : Plan). Alike ss z new) new _ (λ k c a y e1. of_union
      (λ (z : Plan). Alike ss (Join k c a z) new) new _ (λ b x e2. form_is _ _ new
      (join_union_right_alike ss k c a b x) e2) y e1) old e

  pub join_union_right_from_sound : (old new : Plan) → joins.join_union_right_from old ≡ Some new
      → Alike ss old new
  join_union_right_from_sound old new e =
      of_union (λ (z : Plan). Alike ss z new) new _ (λ x y e1. of_join
      (λ (z : Plan). Alike ss (Union z y) new) new _ (λ k c a b e2. of_join
      (λ (z : Plan). Alike ss (Union (Join k c a b) z) new) new _
      (λ l d a' b' e3. let w = if_is _ _ new e3 in same_joins_right k l c d a a' b b' new w.0
      w.1) y e2) x e1) old e

  pub distinct_join_to_sound : (old new : Plan) → joins.distinct_join_to old ≡ Some new
      → Alike ss old new
  distinct_join_to_sound old new e =
      of_distinct (λ (z : Plan). Alike ss z new) new _ (λ x e1. of_join
      (λ (z : Plan). Alike ss (Distinct z) new) new _ (λ k c a b e2. form_is _ _ new
      (distinct_join_alike ss k c a b) e2) x e1) old e

  pub distinct_join_from_sound : (old new : Plan) → joins.distinct_join_from old ≡ Some new
      → Alike ss old new
  distinct_join_from_sound old new e =
      of_join (λ (z : Plan). Alike ss z new) new _ (λ k c x y e1. of_distinct
      (λ (z : Plan). Alike ss (Join k c z y) new) new _ (λ a e2. of_distinct
      (λ (z : Plan). Alike ss (Join k c (Distinct a) z) new) new _
      (λ b e3. back_made _ _ new (distinct_join_alike ss k c a b) (some_plan e3)) y e2) x e1)
      old e

  pub union_commute_to_sound : (old new : Plan) → bags.union_commute_to old ≡ Some new
      → Alike ss old new
  union_commute_to_sound old new e =
      of_union (λ (z : Plan). Alike ss z new) new _ (λ a b e1. form_is _ _ new
      (union_commute_alike ss a b) e1) old e

  pub union_assoc_to_sound : (old new : Plan) → bags.union_assoc_to old ≡ Some new
      → Alike ss old new
  union_assoc_to_sound old new e =
      of_union (λ (z : Plan). Alike ss z new) new _ (λ x c e1. of_union
      (λ (z : Plan). Alike ss (Union z c) new) new _ (λ a b e2. form_is _ _ new
      (union_assoc_alike ss a b c) e2) x e1) old e

  pub union_assoc_from_sound : (old new : Plan) → bags.union_assoc_from old ≡ Some new
      → Alike ss old new
  union_assoc_from_sound old new e =
      of_union (λ (z : Plan). Alike ss z new) new _ (λ a y e1. of_union
      (λ (z : Plan). Alike ss (Union a z) new) new _ (λ b c e2. back_made _ _ new
      (union_assoc_alike ss a b c) (some_plan e2)) y e1) old e

  pub minus_assoc_to_sound : (old new : Plan) → bags.minus_assoc_to old ≡ Some new
      → Alike ss old new
  minus_assoc_to_sound old new e =
      of_minus (λ (z : Plan). Alike ss z new) new _ (λ x c e1. of_minus
      (λ (z : Plan). Alike ss (Minus z c) new) new _ (λ a b e2. form_is _ _ new
      (minus_assoc_alike ss a b c) e2) x e1) old e

  pub minus_assoc_from_sound : (old new : Plan) → bags.minus_assoc_from old ≡ Some new
      → Alike ss old new
  minus_assoc_from_sound old new e =
      of_minus (λ (z : Plan). Alike ss z new) new _ (λ a y e1. of_union
      (λ (z : Plan). Alike ss (Minus a z) new) new _ (λ b c e2. back_made _ _ new
      (minus_assoc_alike ss a b c) (some_plan e2)) y e1) old e

  pub distinct_twice_to_sound : (old new : Plan) → bags.distinct_twice_to old ≡ Some new
      → Alike ss old new
  distinct_twice_to_sound old new e =
      of_distinct (λ (z : Plan). Alike ss z new) new _ (λ x e1. of_distinct
      (λ (z : Plan). Alike ss (Distinct z) new) new _ (λ a e2. form_is _ _ new
      (distinct_twice_alike ss a) e2) x e1) old e

  pub distinct_twice_from_sound : (old new : Plan) → bags.distinct_twice_from old ≡ Some new
      → Alike ss old new
  distinct_twice_from_sound old new e =
      of_distinct (λ (z : Plan). Alike ss z new) new _ (λ a e1. back_made _ _ new
      (distinct_twice_alike ss a) (some_plan e1)) old e

  pub distinct_union_to_sound : (old new : Plan) → bags.distinct_union_to old ≡ Some new
      → Alike ss old new
  distinct_union_to_sound old new e =
      of_distinct (λ (z : Plan). Alike ss z new) new _ (λ x e1. of_union
      (λ (z : Plan). Alike ss (Distinct z) new) new _ (λ a b e2. form_is _ _ new
      (distinct_union_alike ss a b) e2) x e1) old e

  pub distinct_union_from_sound : (old new : Plan) → bags.distinct_union_from old ≡ Some new
      → Alike ss old new
  distinct_union_from_sound old new e =
      of_distinct (λ (z : Plan). Alike ss z new) new _ (λ u e1. of_union
      (λ (z : Plan). Alike ss (Distinct z) new) new _ (λ x y e2. of_distinct
      (λ (z : Plan). Alike ss (Distinct (Union z y)) new) new _
      (λ a e3. of_distinct (λ (z : Plan). Alike ss (Distinct (Union (Distinct a) z)) new) new _
      (λ b e4. back_made _ _ new (distinct_union_alike ss a b) (some_plan e4)) y e3) x e2) u e1)
      old e

  pub distinct_group_to_sound : (old new : Plan) → bags.distinct_group_to old ≡ Some new
      → Alike ss old new
  distinct_group_to_sound old new e =
      of_distinct (λ (z : Plan). Alike ss z new) new _ (λ x e1. of_group
      (λ (z : Plan). Alike ss (Distinct z) new) new _ (λ k g a e2. form_is _ _ new
      (distinct_group_alike ss k g a) e2) x e1) old e

  pub distinct_group_from_sound : (old new : Plan) → bags.distinct_group_from old ≡ Some new
      → Alike ss old new
  distinct_group_from_sound old new e =
      of_group (λ (z : Plan). Alike ss z new) new _ (λ k g a e1. back_made _ _ new
      (distinct_group_alike ss k g a) (some_plan e1)) old e

  pub distinct_map_to_sound : (old new : Plan) → bags.distinct_map_to old ≡ Some new
      → Alike ss old new
  distinct_map_to_sound old new e =
      of_distinct (λ (z : Plan). Alike ss z new) new _ (λ x e1. of_map
      (λ (z : Plan). Alike ss (Distinct z) new) new _ (λ es y e2. of_distinct
      (λ (z : Plan). Alike ss (Distinct (Map es z)) new) new _
      (λ a e3. form_is _ _ new (distinct_map_alike ss es a) e3) y e2) x e1) old e

  pub distinct_map_from_sound : (old new : Plan) → bags.distinct_map_from old ≡ Some new
      → Alike ss old new
  distinct_map_from_sound old new e =
      of_distinct (λ (z : Plan). Alike ss z new) new _ (λ x e1. of_map
      (λ (z : Plan). Alike ss (Distinct z) new) new _ (λ es a e2. back_made _ _ new
      (distinct_map_alike ss es a) (some_plan e2)) x e1) old e

  pub map_merge_to_sound : (old new : Plan) → bags.map_merge_to old ≡ Some new → Alike ss old new
  map_merge_to_sound old new e =
      of_map (λ (z : Plan). Alike ss z new) new _ (λ es x e1. of_map
      (λ (z : Plan). Alike ss (Map es z) new) new _ (λ fs a e2. let w = is_there
      (λ gs. Map gs a)
      (exprs_changed (expr_in fs) es) new e2 in is_made _ _ new
      (map_merge_alike ss es fs w.0 a w.1) w.2) x e1) old e

  pub map_merge_from_sound : (es fs : List Expr) (old new : Plan)
      → bags.map_merge_from es fs old ≡ Some new → Alike ss old new
  map_merge_from_sound es fs old new e =
      of_map (λ (z : Plan). Alike ss z new) new _ (λ gs a e1. let w = where_all_is
      (exprs_changed (expr_in fs) es)
      gs _ new e1 in back_made _ _ new (map_merge_alike ss es fs gs a w.0) w.1) old e

  pub map_union_to_sound : (old new : Plan) → bags.map_union_to old ≡ Some new → Alike ss old new
  map_union_to_sound old new e =
      of_map (λ (z : Plan). Alike ss z new) new _ (λ es x e1. of_union
      (λ (z : Plan). Alike ss (Map es z) new) new _ (λ a b e2. form_is _ _ new
      (map_union_alike ss es a b) e2) x e1) old e

  pub map_union_from_sound : (old new : Plan) → bags.map_union_from old ≡ Some new
      → Alike ss old new
  map_union_from_sound old new e =
      of_union (λ (z : Plan). Alike ss z new) new _ (λ x y e1. of_map
      (λ (z : Plan). Alike ss (Union z y) new) new _ (λ es a e2. of_map
      (λ (z : Plan). Alike ss (Union (Map es a) z) new) new _
      (λ fs b e3. let w = if_is (same_exprs es fs) _ new e3 in subst
      (λ s. Alike ss (Union (Map es a) (Map s b)) new) ((lists.same_exprs es fs).0 w.0)
      (back_made _ _ new (map_union_alike ss es a b) w.1)) y e2) x e1) old e

  pub group_distinct_to_sound : (old new : Plan) → bags.group_distinct_to old ≡ Some new
      → Alike ss old new
  group_distinct_to_sound old new e =
      of_group (λ (z : Plan). Alike ss z new) new _ (λ k g x e1. of_distinct
      (λ (z : Plan). Alike ss (Group k g z) new) new _ (λ a e2. let w = if_is (all_extremes g) _
      new e2 in is_made _ _ new
      (group_distinct_alike ss k g a w.0) w.1) x e1) old e

  pub group_distinct_from_sound : (old new : Plan) → bags.group_distinct_from old ≡ Some new
      → Alike ss old new
  group_distinct_from_sound old new e =
      of_group (λ (z : Plan). Alike ss z new) new _ (λ k g a e1. let w = if_is (all_extremes g) _
      new e1 in back_made _ _ new
      (group_distinct_alike ss k g a w.0) w.1) old e
