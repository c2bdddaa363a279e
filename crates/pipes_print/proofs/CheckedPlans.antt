-- A plan that checks over declared sources is writable.
use Rattle.std.proofs.Common.{◌≡◌, ◌≤◌, ◌<◌, ℕ, zero, suc, ◌+◌, max, Bool, true, false, ◌&&◌, List}
use Rattle.std.proofs.Common.{[], ◌∷◌, ◌++◌, length, map, refl, sym, ap, subst, ◌∙◌, arith, Option}
use Rattle.std.proofs.Common.{Some, None, slice_get, length-append, nat_le}
use Rattle.std.specs.List.{flat_map}
use Rattle.std.specs.Option.{option_and_then}
use Rattle.std.proofs.lemmas.Bool.{and_parts, leb-true}
use Rattle.std.proofs.lemmas.Option.{slice_get_within}
use Rattle.pipes_plan.proofs.PlanTyped.{flag_is}
use Rattle.pipes_tuple.specs.declared.value.Value.{Value}
use Rattle.pipes_tuple.specs.declared.value.Kind.{Kind}
use Rattle.pipes_tuple.specs.declared.value.Kind.TheVariants as kind
use Rattle.pipes_tuple.specs.Limits.{IsValue}
use Rattle.pipes_expr.specs.declared.why.Why.{Why}
use Rattle.pipes_expr.specs.declared.why.Why.TheVariants.{TooMany, TooDeep}
use Rattle.pipes_expr.specs.declared.op.Op.{Op}
use Rattle.pipes_expr.specs.declared.expr.Expr.{Expr}
use Rattle.pipes_expr.specs.ExprKind.{expr_kind, kind_in, only, not_kind, op_kind}
use Rattle.pipes_expr.specs.ExprSize.{expr_nodes, expr_depth}
use Rattle.pipes_expr.specs.ExprWhys.{unless, limit_whys, read, expr_whys}
use Rattle.pipes_expr.proofs.ExprInduction.{Cases, induct}
use Rattle.pipes_expr.proofs.ExprEquations.{expr_kind-Col, expr_kind-Binary, expr_kind-Not}
use Rattle.pipes_expr.proofs.ExprTyped.{operands}
use Rattle.pipes_relation.specs.declared.lists.Pair.{Pair}
use Rattle.pipes_relation.specs.declared.lists.Agg.{Agg}
use Rattle.pipes_relation.specs.declared.lists.Agg.TheVariants as agg
use Rattle.pipes_plan.specs.declared.fault.TypeRefusal.{TypeRefusal}
use Rattle.pipes_plan.specs.declared.plan.Plan.{Plan}
use Rattle.pipes_plan.specs.declared.plan.Plan.TheVariants as plan
use Rattle.pipes_plan.specs.PlanKinds.{all_kinds, is_width, is_flag, is_alike, pairs_alike}
use Rattle.pipes_plan.specs.PlanKinds.{agg_kind, int_only, filter_kinds, map_kinds, join_kinds}
use Rattle.pipes_plan.specs.PlanKinds.{group_kinds, sides_kinds, plan_kinds}
use Rattle.pipes_plan.specs.Refusals.{Looked, looked, at, where_typed, looked_one, looked_two}
use Rattle.pipes_plan.specs.Refusals.{condition_whys, map_whys, join_whys, group_whys, sides_whys}
use Rattle.pipes_plan.specs.Refusals.{not_flag, pair_whys, width_whys}
use Rattle.pipes_plan.specs.Sizes.{plan_nodes, plan_depth}
use Rattle.pipes_plan.proofs.NodeOutcome.{empty-append, unless_held}
use Rattle.pipes_plan.proofs.PlanInduction.{PlanCases, induct_plan}
use Rattle.pipes_plan.proofs.PlanEquations.{kinds-Source, kinds-Filter, kinds-Map, kinds-Union}
use Rattle.pipes_plan.proofs.PlanEquations.{kinds-Join, kinds-Distinct, kinds-Group, kinds-Minus}
use Rattle.pipes_plan.proofs.PlanEquations.{looked-Filter, looked-Map, looked-Union, looked-Join}
use Rattle.pipes_plan.proofs.PlanEquations.{looked-Distinct, looked-Group, looked-Minus}
use Rattle.pipes_plan.proofs.PlanRefusal.{looked_kinds}
use Rattle.pipes_plan.proofs.PlanTyped.{then_is, both_are, only_if_is, within_is, filter_is}
use Rattle.pipes_plan.proofs.PlanTyped.{sides_are, map_is, join_is, all_kinds-cons, group_is}
use Rattle.pipes_grammar.specs.Limits.{deepest, deepest_expr}
use Rattle.pipes_grammar.proofs.Depths.{deepest_expr-Source, deepest_expr-Filter, deepest_expr-Map}
use Rattle.pipes_grammar.proofs.Depths.{deepest_expr-Union, deepest_expr-Join}
use Rattle.pipes_grammar.proofs.Depths.{deepest_expr-Distinct, deepest_expr-Group}
use Rattle.pipes_grammar.proofs.Depths.{deepest_expr-Minus}
use Rattle.pipes_print.specs.Writable.{Each, HasExprNodes, column, literal, binary, negated}
use Rattle.pipes_print.specs.Writable.{IsColumnNumber, HasPairColumns, HasAggColumn, HasPlanNodes}
use Rattle.pipes_print.specs.Writable.{source, filter, mapped, union, join, distinct, group, minus}
use Rattle.pipes_print.specs.Writable.{IsWritablePlan, literals_of, plan_literals, IsCheckedPlan}
use Rattle.pipes_print.proofs.LiteralLists.{each_parts, literals-Literal, literals-Binary}
use Rattle.pipes_print.proofs.LiteralLists.{literals-Not, literals-Filter, literals-Map}
use Rattle.pipes_print.proofs.LiteralLists.{literals-Union, literals-Join, literals-Distinct}
use Rattle.pipes_print.proofs.LiteralLists.{literals-Group, literals-Minus}

abbrev AreValues : List Value → Type 0
AreValues vs = Each IsValue vs

moved : (vs ws : List Value) → vs ≡ ws → AreValues vs → AreValues ws
moved vs ws e h = subst AreValues e h

-- ---- expressions

only_is : (o : Option Kind) (k : Kind) → only not_kind o ≡ Some k → (j : Kind) × (o ≡ Some j)
only_is (Some j) k h = (j, refl)
only_is None k h = absurd cc

-- a typed expression over at most 32 columns
abbrev ExprFits : List Kind → Expr → Type 0
ExprFits s e = (k : Kind) → expr_kind e s ≡ Some k → AreValues (literals_of e) → HasExprNodes e

expr_cases : (s : List Kind) → length s ≤ 32 → Cases (ExprFits s)
expr_cases s short = record {
  col = λ i k h vs. column i
      (omega (arith, short, slice_get_within s i k (sym (expr_kind-Col i s) ∙ h)));
  literal = λ v k h vs. literal v (moved _ _ (literals-Literal v) vs).0;
  binary = λ o a b f g k h vs.
      let sides = operands (op_kind o) (expr_kind a s) (expr_kind b s) k
      (sym (expr_kind-Binary o a b s) ∙ h) in
      let w = each_parts IsValue (literals_of a) (literals_of b)
      (moved _ _ (literals-Binary o a b) vs) in
      binary o a b (f sides.left sides.left_is w.0) (g sides.right sides.right_is w.1);
  not = λ a f k h vs.
      let w = only_is (expr_kind a s) k (sym (expr_kind-Not a s) ∙ h) in
      negated a (f w.0 w.1 (moved _ _ (literals-Not a) vs));
}

expr_fits : (s : List Kind) → length s ≤ 32 → (e : Expr) (k : Kind) → expr_kind e s ≡ Some k
    → AreValues (literals_of e) → HasExprNodes e
expr_fits s short e = induct (ExprFits s) (expr_cases s short) e

exprs_fit : (s : List Kind) → length s ≤ 32 → (es : List Expr) (t : List Kind)
    → all_kinds (map (kind_in s) es) ≡ Some t → AreValues (flat_map literals_of es)
    → Each HasExprNodes es
exprs_fit s short [] t h vs = tt
exprs_fit s short (e ∷ es) t h vs =
    let w = all_kinds-cons (kind_in s e) (map (kind_in s) es) t h in
    let v = each_parts IsValue (literals_of e) (flat_map literals_of es) vs in
    (expr_fits s short e w.0 w.2 v.0, exprs_fit s short es w.1 w.3 v.1)

condition_fits : (s : List Kind) → length s ≤ 32 → (c : Expr) → is_flag (expr_kind c s) ≡ true
    → AreValues (literals_of c) → HasExprNodes c
condition_fits s short c h vs = expr_fits s short c kind.Flag (flag_is (expr_kind c s) h) vs

-- ---- columns

column_fits : (s : List Kind) (i : ℕ) (k : Kind) → length s ≤ 32 → slice_get s i ≡ Some k → i < 32
column_fits s i k short h = omega (arith, short, slice_get_within s i k h)

alike_are : (o q : Option Kind) → is_alike o q ≡ true
    → (j : Kind) × (k : Kind) × (o ≡ Some j) × (q ≡ Some k)
alike_are (Some j) (Some k) h = (j, k, refl, refl)
alike_are (Some j) None h = absurd cc
alike_are None q h = absurd cc

pairs_fit : (s t : List Kind) → length s ≤ 32 → length t ≤ 32 → (pairs : List Pair)
    → pairs_alike s t pairs ≡ true → Each HasPairColumns pairs
pairs_fit s t left right [] h = tt
pairs_fit s t left right (p ∷ ps) h =
    let w = and_parts (is_alike (slice_get s p.left) (slice_get t p.right)) (pairs_alike s t ps) h
    in
    let a = alike_are (slice_get s p.left) (slice_get t p.right) w.0 in (
      (column_fits s p.left a.0 left a.2, column_fits t p.right a.1 right a.3),
      pairs_fit s t left right ps w.1,
    )

columns_fit : (s : List Kind) → length s ≤ 32 → (columns : List ℕ) (t : List Kind)
    → all_kinds (map (slice_get s) columns) ≡ Some t → Each IsColumnNumber columns
columns_fit s short [] t h = tt
columns_fit s short (c ∷ columns) t h =
    let w = all_kinds-cons (slice_get s c) (map (slice_get s) columns) t h in
    (column_fits s c w.0 short w.2, columns_fit s short columns w.1 w.3)

int_is : (o : Option Kind) (k : Kind) → int_only o ≡ Some k → o ≡ Some kind.Int
int_is (Some kind.Int) k h = refl
int_is (Some kind.Text) k h = absurd cc
int_is (Some kind.Flag) k h = absurd cc
int_is None k h = absurd cc

agg_fits : (s : List Kind) → length s ≤ 32 → (a : Agg) (k : Kind) → agg_kind s a ≡ Some k
    → HasAggColumn a
agg_fits s short agg.Count k h = tt
agg_fits s short (agg.Sum c) k h = column_fits s c kind.Int short (int_is (slice_get s c) k h)
agg_fits s short (agg.Min c) k h = column_fits s c k short h
agg_fits s short (agg.Max c) k h = column_fits s c k short h
agg_fits s short (agg.Avg c) k h = column_fits s c kind.Int short (int_is (slice_get s c) k h)

aggs_fit : (s : List Kind) → length s ≤ 32 → (aggs : List Agg) (t : List Kind)
    → all_kinds (map (agg_kind s) aggs) ≡ Some t → Each HasAggColumn aggs
aggs_fit s short [] t h = tt
aggs_fit s short (a ∷ aggs) t h =
    let w = all_kinds-cons (agg_kind s a) (map (agg_kind s) aggs) t h in
    (agg_fits s short a w.0 w.2, aggs_fit s short aggs w.1 w.3)

-- ---- the nodes of a typed plan

abbrev Narrow : List (List Kind) → Type 0
Narrow ss = Each (λ (s : List Kind). length s ≤ 32) ss

narrow_at : (ss : List (List Kind)) (i : ℕ) (t : List Kind) → Narrow ss
    → slice_get ss i ≡ Some t → length t ≤ 32
narrow_at [] i t h e = absurd cc
narrow_at (s ∷ ss) zero t h e = let same : s ≡ t = cc in
    subst (λ (z : List Kind). length z ≤ 32) same h.0
narrow_at (s ∷ ss) (suc i) t h e = narrow_at ss i t h.1 e

abbrev PlanFits : List (List Kind) → Plan → Type 0
PlanFits ss p = (t : List Kind) → plan_kinds p ss ≡ Some t → AreValues (plan_literals p)
    → (length t ≤ 32) × HasPlanNodes (length ss) p

-- a node over two plans with the same columns
sides_fit : (ss : List (List Kind)) (a b : Plan) → PlanFits ss a → PlanFits ss b
    → (t : List Kind)
    → option_and_then (λ s. option_and_then (sides_kinds s) (plan_kinds b ss)) (plan_kinds a ss)
    ≡ Some t
    → AreValues (plan_literals a ++ plan_literals b)
    → (length t ≤ 32) × HasPlanNodes (length ss) a × HasPlanNodes (length ss) b
sides_fit ss a b f g t h vs =
    let w = both_are sides_kinds (plan_kinds a ss) (plan_kinds b ss) t h in
    let v = each_parts IsValue (plan_literals a) (plan_literals b) vs in
    let left = f w.0 w.2 v.0 in
    let right = g w.1 w.3 v.1 in
    let same = sides_are w.0 w.1 t w.4 in
    (subst (λ (z : List Kind). length z ≤ 32) same.0 left.0, left.1, right.1)

join_fits : (ss : List (List Kind)) (k : List Pair) (c : Expr) (a b : Plan) → PlanFits ss a
    → PlanFits ss b → PlanFits ss (plan.Join k c a b)
join_fits ss k c a b f g t h vs =
    let w = both_are (join_kinds k c) (plan_kinds a ss) (plan_kinds b ss) t
    (sym (kinds-Join k c a b ss) ∙ h) in
    let v = each_parts IsValue (literals_of c) (plan_literals a ++ plan_literals b)
    (moved _ _ (literals-Join k c a b) vs) in
    let u = each_parts IsValue (plan_literals a) (plan_literals b) v.1 in
    let left = f w.0 w.2 u.0 in
    let right = g w.1 w.3 u.1 in
    let made = join_is k c w.0 w.1 t w.4 in
    let whole : length (w.0 ++ w.1) ≤ 32 = omega (arith, made.1, length-append w.0 w.1) in
    let tests = and_parts (pairs_alike w.0 w.1 k && is_flag (expr_kind c (w.0 ++ w.1)))
    (is_width (length (w.0 ++ w.1))) (only_if_is _ (w.0 ++ w.1) t w.4).0 in
    let both = and_parts (pairs_alike w.0 w.1 k) (is_flag (expr_kind c (w.0 ++ w.1))) tests.0 in (
      subst (λ (z : List Kind). length z ≤ 32) made.0 whole,
      join k c a b (pairs_fit w.0 w.1 left.0 right.0 k both.0)
          (condition_fits (w.0 ++ w.1) whole c both.1 v.0) left.1 right.1,
    )

group_fits : (ss : List (List Kind)) (k : List ℕ) (g : List Agg) (a : Plan) → PlanFits ss a
    → PlanFits ss (plan.Group k g a)
group_fits ss k g a f t h vs =
    let w = then_is (group_kinds k g) (plan_kinds a ss) t (sym (kinds-Group k g a ss) ∙ h) in
    let below = f w.0 w.1 (moved _ _ (literals-Group k g a) vs) in
    let p = (group_is k g w.0 t w.2).0 in
    let width = (within_is (all_kinds (map (slice_get w.0) k ++ map (agg_kind w.0) g)) t w.2).1 in (
      width.1,
      group k g a (columns_fit w.0 below.0 k p.0 p.2) (aggs_fit w.0 below.0 g p.1 p.3) below.1,
    )

plan_cases : (ss : List (List Kind)) → Narrow ss → PlanCases (PlanFits ss)
plan_cases ss narrow = record {
  source = λ i t h vs.
      let e = sym (kinds-Source i ss) ∙ h in
      (narrow_at ss i t narrow e, source i (slice_get_within ss i t e));
  filter = λ c a f t h vs.
      let w = then_is (filter_kinds c) (plan_kinds a ss) t (sym (kinds-Filter c a ss) ∙ h) in
      let v = each_parts IsValue (literals_of c) (plan_literals a)
      (moved _ _ (literals-Filter c a) vs) in
      let below = f w.0 w.1 v.1 in
      let test = only_if_is (is_flag (expr_kind c w.0)) w.0 t w.2 in (
        subst (λ (z : List Kind). length z ≤ 32) test.1 below.0,
        filter c a (condition_fits w.0 below.0 c test.0 v.0) below.1,
      );
  mapped = λ es a f t h vs.
      let w = then_is (map_kinds es) (plan_kinds a ss) t (sym (kinds-Map es a ss) ∙ h) in
      let v = each_parts IsValue (flat_map literals_of es) (plan_literals a)
      (moved _ _ (literals-Map es a) vs) in
      let below = f w.0 w.1 v.1 in
      let made = map_is es w.0 t w.2 in
      let width = (within_is (all_kinds (map (kind_in w.0) es)) t w.2).1 in (
        width.1,
        mapped es a made.1.0 (exprs_fit w.0 below.0 es t made.0 v.0) below.1,
      );
  union = λ a b f g t h vs.
      let s = sides_fit ss a b f g t (sym (kinds-Union a b ss) ∙ h)
      (moved _ _ (literals-Union a b) vs) in
      (s.0, union a b s.1 s.2);
  join = λ k c a b f g. join_fits ss k c a b f g;
  distinct = λ a f t h vs.
      let below = f t (sym (kinds-Distinct a ss) ∙ h) (moved _ _ (literals-Distinct a) vs) in
      (below.0, distinct a below.1);
  group = λ k g a f. group_fits ss k g a f;
  minus = λ a b f g t h vs.
      let s = sides_fit ss a b f g t (sym (kinds-Minus a b ss) ∙ h)
      (moved _ _ (literals-Minus a b) vs) in
      (s.0, minus a b s.1 s.2);
}

-- ---- the depth of its expressions

depth_held : (b c : Bool) → unless b TooMany ++ unless c TooDeep ≡ [] → c ≡ true
depth_held b c h = unless_held c TooDeep (empty-append (unless b TooMany) (unless c TooDeep) h).1

expr_shallow : (s : List Kind) (e : Expr) → expr_whys s e ≡ [] → expr_depth e ≤ 32
expr_shallow s e h =
    leb-true (expr_depth e) 32
    (depth_held (nat_le (expr_nodes e) 255) (nat_le (expr_depth e) 32)
    (empty-append (limit_whys (expr_nodes e) (expr_depth e)) (read e s).whys h).0)

exprs_shallow : (s : List Kind) (es : List Expr) → flat_map (expr_whys s) es ≡ []
    → deepest es ≤ 32
exprs_shallow s [] h = omega arith
exprs_shallow s (e ∷ es) h =
    let w = empty-append (expr_whys s e) (flat_map (expr_whys s) es) h in
    omega (arith, expr_shallow s e w.0, exprs_shallow s es w.1)

condition_shallow : (s : List Kind) (c : Expr) → condition_whys c s ≡ [] → expr_depth c ≤ 32
condition_shallow s c h =
    expr_shallow s c (empty-append (expr_whys s c) (not_flag (expr_kind c s)) h).0

none_at : (place : ℕ) (whys : List Why) → at place whys ≡ [] → whys ≡ []
none_at place [] h = refl
none_at place (why ∷ whys) h = absurd cc

-- what a node refuses of its own, where its child is typed
own_one : (place : ℕ) (whys : List Kind → List Why) (kinds : List Kind → Option (List Kind))
    (l : Looked) (s : List Kind) → l.kinds ≡ Some s → (looked_one place whys kinds l).refusals ≡ []
    → (l.refusals ≡ []) × (whys s ≡ [])
own_one place whys kinds l s e h =
    let w = empty-append l.refusals (at place (where_typed whys l.kinds)) h in (
      w.0,
      ap (λ (o : Option (List Kind)). where_typed whys o) (sym e)
          ∙ none_at place (where_typed whys l.kinds) w.1,
    )

own_two : (place : ℕ) (whys : List Kind → List Kind → List Why)
    (kinds : List Kind → List Kind → Option (List Kind)) (l m : Looked) (s r : List Kind)
    → l.kinds ≡ Some s → m.kinds ≡ Some r → (looked_two place whys kinds l m).refusals ≡ []
    → (l.refusals ≡ []) × (m.refusals ≡ []) × (whys s r ≡ [])
own_two place whys kinds l m s r e f h =
    let own = where_typed (λ z. where_typed (whys z) m.kinds) l.kinds in
    let w = empty-append l.refusals (m.refusals ++ at place own) h in
    let v = empty-append m.refusals (at place own) w.1 in (
      w.0,
      v.0,
      ap (λ (o : Option (List Kind)). where_typed (whys s) o) (sym f)
          ∙ ap (λ (o : Option (List Kind)). where_typed (λ z. where_typed (whys z) m.kinds) o)
          (sym e)
          ∙ none_at place own v.1,
    )

abbrev none_of : Looked → Type 0
none_of l = l.refusals ≡ []

abbrev PlanShallow : List (List Kind) → Plan → Type 0
PlanShallow ss p = (t : List Kind) (place : ℕ) → plan_kinds p ss ≡ Some t
    → none_of (looked ss p place) → deepest_expr p ≤ 32

sides_shallow : (ss : List (List Kind)) (a b : Plan) → PlanShallow ss a → PlanShallow ss b
    → (t : List Kind) (place : ℕ)
    → option_and_then (λ s. option_and_then (sides_kinds s) (plan_kinds b ss)) (plan_kinds a ss)
    ≡ Some t
    → none_of (looked_two place sides_whys sides_kinds (looked ss a (place + 1))
    (looked ss b ((looked ss a (place + 1)).next)))
    → (deepest_expr a ≤ 32) × (deepest_expr b ≤ 32)
sides_shallow ss a b f g t place h none =
    let next = (looked ss a (place + 1)).next in
    let w = both_are sides_kinds (plan_kinds a ss) (plan_kinds b ss) t h in
    let o = own_two place sides_whys sides_kinds (looked ss a (place + 1)) (looked ss b next) w.0
    w.1 (looked_kinds ss a (place + 1) ∙ w.2) (looked_kinds ss b next ∙ w.3) none in
    (f w.0 (place + 1) w.2 o.0, g w.1 next w.3 o.1)

shallow_cases : (ss : List (List Kind)) → PlanCases (PlanShallow ss)
shallow_cases ss = record {
  source = λ i t n h none. omega (arith, deepest_expr-Source i);
  filter = λ c a f t n h none.
      let w = then_is (filter_kinds c) (plan_kinds a ss) t (sym (kinds-Filter c a ss) ∙ h) in
      let o = own_one n (condition_whys c) (filter_kinds c) (looked ss a (n + 1)) w.0
      (looked_kinds ss a (n + 1) ∙ w.1) (subst none_of (looked-Filter c a ss n) none) in
      omega (
        arith,
        deepest_expr-Filter c a,
        f w.0 (n + 1) w.1 o.0,
        condition_shallow w.0 c o.1,
      );
  mapped = λ es a f t n h none.
      let w = then_is (map_kinds es) (plan_kinds a ss) t (sym (kinds-Map es a ss) ∙ h) in
      let o = own_one n (map_whys es) (map_kinds es) (looked ss a (n + 1)) w.0
      (looked_kinds ss a (n + 1) ∙ w.1) (subst none_of (looked-Map es a ss n) none) in
      omega (
        arith,
        deepest_expr-Map es a,
        f w.0 (n + 1) w.1 o.0,
        exprs_shallow w.0 es
            (empty-append (flat_map (expr_whys w.0) es) (width_whys (length es)) o.1).0,
      );
  union = λ a b f g t n h none.
      let s = sides_shallow ss a b f g t n (sym (kinds-Union a b ss) ∙ h)
      (subst none_of (looked-Union a b ss n) none) in
      omega (arith, deepest_expr-Union a b, s.0, s.1);
  join = λ k c a b f g t n h none.
      let next = (looked ss a (n + 1)).next in
      let w = both_are (join_kinds k c) (plan_kinds a ss) (plan_kinds b ss) t
      (sym (kinds-Join k c a b ss) ∙ h) in
      let o = own_two n (join_whys k c) (join_kinds k c) (looked ss a (n + 1)) (looked ss b next)
      w.0 w.1 (looked_kinds ss a (n + 1) ∙ w.2) (looked_kinds ss b next ∙ w.3)
      (subst none_of (looked-Join k c a b ss n) none) in
      let own = empty-append (flat_map (pair_whys w.0 w.1) k)
      (condition_whys c (w.0 ++ w.1) ++ width_whys (length (w.0 ++ w.1))) o.2 in
      let test = empty-append (condition_whys c (w.0 ++ w.1)) (width_whys (length (w.0 ++ w.1)))
      own.1 in
      omega (
        arith,
        deepest_expr-Join k c a b,
        f w.0 (n + 1) w.2 o.0,
        g w.1 next w.3 o.1,
        condition_shallow (w.0 ++ w.1) c test.0,
      );
  distinct = λ a f t n h none.
      omega (
        arith,
        deepest_expr-Distinct a,
        f t (n + 1) (sym (kinds-Distinct a ss) ∙ h) (subst none_of (looked-Distinct a ss n) none),
      );
  group = λ k g a f t n h none.
      let w = then_is (group_kinds k g) (plan_kinds a ss) t (sym (kinds-Group k g a ss) ∙ h) in
      let o = own_one n (group_whys k g) (group_kinds k g) (looked ss a (n + 1)) w.0
      (looked_kinds ss a (n + 1) ∙ w.1) (subst none_of (looked-Group k g a ss n) none) in
      omega (arith, deepest_expr-Group k g a, f w.0 (n + 1) w.1 o.0);
  minus = λ a b f g t n h none.
      let s = sides_shallow ss a b f g t n (sym (kinds-Minus a b ss) ∙ h)
      (subst none_of (looked-Minus a b ss n) none) in
      omega (arith, deepest_expr-Minus a b, s.0, s.1);
}

-- ---- the whole

at_parts : (place : ℕ) (whys : List Why) (more : List TypeRefusal) → at place whys ++ more ≡ []
    → (whys ≡ []) × (more ≡ [])
at_parts place whys more h =
    let w = empty-append (at place whys) more h in (none_at place whys w.0, w.1)

pub plan_checked : (sources : ℕ) (p : Plan) → IsCheckedPlan sources p → IsWritablePlan sources p
plan_checked sources p is =
    let ss = is.schemas in
    let t = is.typed.schema in
    let fits = induct_plan (PlanFits ss) (plan_cases ss is.widths) p t is.typed.is is.literals in
    let w = at_parts 0 (limit_whys (plan_nodes p) (plan_depth p)) (looked ss p 0).refusals
    is.checks.unrefused in
    record {
      nodes = subst (λ (n : ℕ). HasPlanNodes n p) is.count fits.1;
      depth = leb-true (plan_depth p) 32
          (depth_held (nat_le (plan_nodes p) 255) (nat_le (plan_depth p) 32) w.0);
      exprs = induct_plan (PlanShallow ss) (shallow_cases ss) p t 0 is.typed.is w.1;
      lists = is.checks.lists;
    }
