-- The two sides of each rule that moves a filter over a join, or a join over a union, mean the
-- same.
use Rattle.std.proofs.Common.{◌≡◌, ℕ, ◌+◌, ◌-◌, ◌<◌, ◌≤◌, Bool, true, false, ◌&&◌, cond, List, []}
use Rattle.std.proofs.Common.{◌∷◌, ◌++◌, length, map, refl, sym, ap, ◌∙◌, subst, rules, arith}
use Rattle.std.proofs.Common.{Option}
use Rattle.std.proofs.Common.{Some, None, length-append}
use Rattle.std.specs.Prelude.{nat_lt, nat_le}
use Rattle.std.specs.List.{All, filter, flat_map}
use Rattle.std.proofs.lemmas.Bool.Decides.{nat_tests}
use Rattle.std.proofs.lemmas.Grind.{flat_map-append}
use Rattle.std.proofs.lemmas.List.{map-append}
use Rattle.std.proofs.Math.ListN.{length-map}
use Rattle.pipes_tuple.specs.declared.value.Value.{Value}
use Rattle.pipes_tuple.specs.declared.value.Value.TheVariants as value
use Rattle.pipes_tuple.specs.declared.value.Kind.{Kind}
use Rattle.pipes_tuple.specs.declared.value.Kind.TheVariants as kind
use Rattle.pipes_tuple.specs.Kinds.{Fits, kind_of}
use Rattle.pipes_tuple.specs.Bag.{SameBag}
use Rattle.pipes_tuple.proofs.Perm.{Perm, then, Perm-equal, Perm-each, Perm-split}
use Rattle.pipes_tuple.proofs.Bags.{SameBag-Perm}
use Rattle.pipes_expr.specs.declared.op.Op.{Op}
use Rattle.pipes_expr.specs.declared.op.Op.TheVariants.{And}
use Rattle.pipes_expr.specs.declared.expr.Expr.{Expr, the_lemmas}
use Rattle.pipes_expr.specs.declared.expr.Expr.TheVariants.{Col, Literal, Binary, Not}
use Rattle.pipes_expr.specs.ExprValue.{Row, column, is_true, passes, value_of}
use Rattle.pipes_expr.specs.ExprKind.{expr_kind}
use Rattle.pipes_expr.proofs.ExprInduction.{Cases, induct}
use Rattle.pipes_expr.proofs.ExprEquations.{value_of-Col, value_of-Literal}
use Rattle.pipes_expr.proofs.ConcatenatedRows.{column_left, column_right}
use Rattle.pipes_relation.specs.declared.lists.Pair.{Pair}
use Rattle.pipes_plan.specs.declared.plan.Plan.{Plan}
use Rattle.pipes_plan.specs.declared.plan.Plan.TheVariants.{Filter, Union, Join}
use Rattle.pipes_plan.specs.Algebra.{alg}
use Rattle.pipes_relation.specs.Relations.{pairs_equal, meets, joined, joined_row}
use Rattle.pipes_plan.specs.PlanKinds.{plan_kinds, IsTyped, BagsFit, join_kinds}
use Rattle.pipes_plan.proofs.PlanEquations.{alg-Filter, alg-Union, alg-Join}
use Rattle.pipes_plan.proofs.PlanTyped.{join_is}
use Rattle.pipes_plan.proofs.AnswerFits.{answer_fits}
use Rattle.pipes_rewrite.specs.Changes.{sum_32, only_below, lower_by, raise_by, expr_changed}
use Rattle.pipes_rewrite.specs.Changes.{truth_value, is_truth}
use Rattle.pipes_rewrite.specs.Changes.{truth, conjunction}
use Rattle.pipes_rewrite.specs.Widths.{width}
use Rattle.pipes_rewrite.specs.SameMeaning.{SameMeaning, Alike}
use Rattle.pipes_rewrite.proofs.ChangedValues.{Places, changed_value}
use Rattle.pipes_rule_laws.proofs.FilterSound.{passes-And}
use Rattle.pipes_rule_laws.proofs.JoinedRows.{joined_by, joined-by, joined_alike, filter-joined}
use Rattle.pipes_rule_laws.proofs.JoinedRows.{joined-left, joined-right}
use Rattle.pipes_rule_laws.proofs.RowWidth.{width_is, sum_within}
use Rattle.pipes_rule_laws.proofs.Same.{some_schema, same_rows, same_answers, typed_as}
use Rattle.pipes_rule_laws.proofs.Same.{filter_keeps}
use Rattle.pipes_rule_laws.proofs.Same.{filter_typed, filter_flag, union_keeps, union_left_typed}
use Rattle.pipes_rule_laws.proofs.Same.{UnderJoin, join_under, both_equal, alike-sym}

-- a row that fits has the schema's length
pub fits_length : (row : Row) (s : List Kind) → Fits row s → length row ≡ length s
fits_length row s f = sym (length-map row kind_of) ∙ ap length f

pub fits_both : (l r : Row) (s t : List Kind) → Fits l s → Fits r t → Fits (l ++ r) (s ++ t)
fits_both l r s t f g = map-append kind_of l r ∙ rw (f, g)

-- ---- columns of the sides

below_is : (n i : ℕ) (x : Expr) → only_below n i ≡ Some x → (i < n) × (Col i ≡ x)
below_is n i x h = go (nat_lt i n) refl h where
  go : (b : Bool) → b ≡ nat_lt i n → cond b (Some (Col i)) None ≡ Some x → (i < n) × (Col i ≡ x)
  go true e g = (grind (arith, nat_tests), cc)
  go false e g = cc

down_is : (n i : ℕ) (x : Expr) → lower_by n i ≡ Some x → (n ≤ i) × (Col (i - n) ≡ x)
down_is n i x h = go (nat_le n i) refl h where
  go : (b : Bool) → b ≡ nat_le n i → cond b (Some (Col (i - n))) None ≡ Some x
      → (n ≤ i) × (Col (i - n) ≡ x)
  go true e g = (grind (arith, nat_tests), cc)
  go false e g = cc

left_places : (l r : Row) (n : ℕ) (s : List Kind) → n ≡ length l
    → Places (only_below n) s (l ++ r) l
left_places l r n s e i h x g =
    let w = below_is n i x g in
    ap (λ z. value_of z l) (sym w.1) ∙ value_of-Col i l
    ∙ sym (column_left l r i (omega (arith, w.0, e)))

right_places : (l r : Row) (n : ℕ) (s : List Kind) → n ≡ length l
    → Places (lower_by n) s (l ++ r) r
right_places l r n s e i h x g =
    let w = down_is n i x g in
    ap (λ z. value_of z r) (sym w.1) ∙ value_of-Col (i - n) r ∙ ap (λ m. column r (i - m)) e
    ∙ sym (column_right l r i (omega (arith, w.0, e)))

kept_places : (l r : Row) (n : ℕ) (s : List Kind) → n ≡ length l
    → Places (only_below n) s l (l ++ r)
kept_places l r n s e i h x g =
    let w = below_is n i x g in
    ap (λ z. value_of z (l ++ r)) (sym w.1) ∙ value_of-Col i (l ++ r)
    ∙ column_left l r i (omega (arith, w.0, e))

some_expr : {x y : Expr} → Some x ≡ Some y → x ≡ y
some_expr h = cc

pub raised_places : (l r : Row) (n : ℕ) (t : List Kind) → n ≡ length l
    → length l + length t ≤ 4294967295 → Places (raise_by n) t r (l ++ r)
raised_places l r n t e room i h x g =
    let past : sum_32 i n ≡ i + length l = ap (sum_32 i) e
    ∙ sum_within i (length l) (omega (arith, h, room)) in
    let back : (i + length l) - length l ≡ i = omega arith in
    ap (λ z. value_of z (l ++ r)) (sym (some_expr g)) ∙ value_of-Col (sum_32 i n) (l ++ r)
    ∙ ap (column (l ++ r)) past ∙ column_right l r (i + length l) (omega arith)
    ∙ ap (column r) back

-- ---- conjunctions

is_truth-Col : (i : ℕ) → is_truth (Col i) ≡ false
is_truth-Col i = search (rules, the_lemmas)

is_truth-Literal : (v : Value) → is_truth (Literal v) ≡ truth_value v
is_truth-Literal v = search (rules, the_lemmas)

is_truth-Binary : (o : Op) (a b : Expr) → is_truth (Binary o a b) ≡ false
is_truth-Binary o a b = search (rules, the_lemmas)

is_truth-Not : (a : Expr) → is_truth (Not a) ≡ false
is_truth-Not a = search (rules, the_lemmas)

true_value : (v : Value) → truth_value v ≡ true → v ≡ value.Flag true
true_value (value.Flag b) h = ap value.Flag h
true_value (value.Int n) h = cc
true_value (value.Text t) h = cc

not_truth : {P : Type 0} → (b : Bool) → b ≡ false → b ≡ true → P
not_truth true e h = cc
not_truth false e h = cc

abbrev OnlyTruth : Expr → Type 0
OnlyTruth e = is_truth e ≡ true → e ≡ truth

truth_cases : Cases OnlyTruth
truth_cases = record {
  col = λ i h. not_truth (is_truth (Col i)) (is_truth-Col i) h;
  literal = λ v h. ap Literal (true_value v (sym (is_truth-Literal v) ∙ h));
  binary = λ o a b p q h. not_truth (is_truth (Binary o a b)) (is_truth-Binary o a b) h;
  not = λ a p h. not_truth (is_truth (Not a)) (is_truth-Not a) h;
}

-- only one expression is the literal
pub truth_is : (e : Expr) → is_truth e ≡ true → e ≡ truth
truth_is e h = induct OnlyTruth truth_cases e h

pub passes-truth : (row : Row) → passes truth row ≡ true
passes-truth row = ap is_true (value_of-Literal (value.Flag true) row)

and_true : (a : Bool) → a ≡ (a && true)
and_true true = refl
and_true false = refl

pub passes-conjunction : (c p : Expr) (row : Row)
    → passes (conjunction c p) row ≡ (passes c row && passes p row)
passes-conjunction c p row = go (is_truth c) (is_truth p) refl refl where
  go : (x y : Bool) → x ≡ is_truth c → y ≡ is_truth p
      → passes (cond x p (cond y c (Binary And c p))) row ≡ (passes c row && passes p row)
  go true y e f = sym (ap (λ b. b && passes p row) (ap (λ z. passes z row)
      (truth_is c (sym e)) ∙ passes-truth row))
  go false true e f = and_true (passes c row) ∙ sym (ap (λ b. passes c row && b)
      (ap (λ z. passes z row) (truth_is p (sym f)) ∙ passes-truth row))
  go false false e f = passes-And c p row

-- ---- kinds of joins

module _ (ss : List (List Kind)) where
  -- joins over plans of the same schemas
  pub join_same_kinds : (k k' : List Pair) (c c' : Expr) (a a' b b' : Plan)
      → IsTyped (Join k c a b) ss → IsTyped (Join k' c' a' b') ss
      → plan_kinds a ss ≡ plan_kinds a' ss → plan_kinds b ss ≡ plan_kinds b' ss
      → plan_kinds (Join k c a b) ss ≡ plan_kinds (Join k' c' a' b') ss
  join_same_kinds k k' c c' a a' b b' t u e f =
      let j = join_under ss k c a b t in
      let w = join_under ss k' c' a' b' u in
      let left = some_schema (sym j.left ∙ e ∙ w.left) in
      let right = some_schema (sym j.right ∙ f ∙ w.right) in
      j.whole_is ∙ ap Some (ap (λ (z : List Kind). z ++ j.right_kinds) left
      ∙ ap (λ (z : List Kind). w.left_kinds ++ z) right) ∙ sym w.whole_is

  pub join_left_typed : (k : List Pair) (c : Expr) (a b : Plan) → IsTyped (Join k c a b) ss
      → IsTyped a ss
  join_left_typed k c a b t = let j = join_under ss k c a b t in typed_as ss a j.left_kinds j.left

  pub join_right_typed : (k : List Pair) (c : Expr) (a b : Plan) → IsTyped (Join k c a b) ss
      → IsTyped b ss
  join_right_typed k c a b t = let j = join_under ss k c a b t in
      typed_as ss b j.right_kinds j.right

  -- ---- filters of joins

  -- what two conditions have to do with each other on the rows of a join's sides
  abbrev pub AgreeOn : List Kind → List Kind → (Row → Row → Bool) → (Row → Row → Bool) → Type 0
  AgreeOn s t f g = (l r : Row) → Fits l s → Fits r t → f l r ≡ g l r

  left_alike : (k : List Pair) (c p q : Expr) (a b : Plan) (j : UnderJoin ss k c a b)
      → AgreeOn j.left_kinds j.right_kinds (λ l r. passes p (l ++ r)) (λ l r. passes q l)
      → Alike ss (Filter p (Join k c a b)) (Join k c (Filter q a) b)
  left_alike k c p q a b j h t u = record {
    kinds = filter_keeps ss p (Join k c a b) t
        ∙ join_same_kinds k k c c a (Filter q a) b b (filter_typed ss p (Join k c a b) t) u
        (sym (filter_keeps ss q a (join_left_typed k c (Filter q a) b u))) refl;
    answers = λ bags fit. same_answers
        (alg-Filter p (Join k c a b) bags ∙ ap (filter (passes p)) (alg-Join k c a b bags))
        (alg-Join k c (Filter q a) b bags
        ∙ ap (λ (xs : List Row). joined k c xs (alg b bags)) (alg-Filter q a bags))
        (same_rows (
        ap (filter (passes p)) (joined-by k c (alg a bags) (alg b bags))
        ∙ filter-joined (passes p) (meets k c) (alg a bags) (alg b bags)
        ∙ joined_alike (λ l. Fits l j.left_kinds) (λ r. Fits r j.right_kinds)
        (λ l r. passes p (l ++ r) && meets k c l r) (λ l r. passes q l && meets k c l r)
        (λ l r f g. ap (λ z. z && meets k c l r) (h l r f g)) (alg a bags) (alg b bags)
        (answer_fits ss bags fit a j.left_kinds j.left)
        (answer_fits ss bags fit b j.right_kinds j.right)
        ∙ sym (joined-left (passes q) (meets k c) (alg a bags) (alg b bags))
        ∙ sym (joined-by k c (filter (passes q) (alg a bags)) (alg b bags))));
  }

  right_alike : (k : List Pair) (c p q : Expr) (a b : Plan) (j : UnderJoin ss k c a b)
      → AgreeOn j.left_kinds j.right_kinds (λ l r. passes p (l ++ r)) (λ l r. passes q r)
      → Alike ss (Filter p (Join k c a b)) (Join k c a (Filter q b))
  right_alike k c p q a b j h t u = record {
    kinds = filter_keeps ss p (Join k c a b) t
        ∙ join_same_kinds k k c c a a b (Filter q b) (filter_typed ss p (Join k c a b) t) u
        refl (sym (filter_keeps ss q b (join_right_typed k c a (Filter q b) u)));
    answers = λ bags fit. same_answers
        (alg-Filter p (Join k c a b) bags ∙ ap (filter (passes p)) (alg-Join k c a b bags))
        (alg-Join k c a (Filter q b) bags
        ∙ ap (λ (xs : List Row). joined k c (alg a bags) xs) (alg-Filter q b bags))
        (same_rows (
        ap (filter (passes p)) (joined-by k c (alg a bags) (alg b bags))
        ∙ filter-joined (passes p) (meets k c) (alg a bags) (alg b bags)
        ∙ joined_alike (λ l. Fits l j.left_kinds) (λ r. Fits r j.right_kinds)
        (λ l r. passes p (l ++ r) && meets k c l r) (λ l r. passes q r && meets k c l r)
        (λ l r f g. ap (λ z. z && meets k c l r) (h l r f g)) (alg a bags) (alg b bags)
        (answer_fits ss bags fit a j.left_kinds j.left)
        (answer_fits ss bags fit b j.right_kinds j.right)
        ∙ sym (joined-right (passes q) (meets k c) (alg a bags) (alg b bags))
        ∙ sym (joined-by k c (alg a bags) (filter (passes q) (alg b bags)))));
  }

  side_width : (a : Plan) (s : List Kind) (l : Row) → plan_kinds a ss ≡ Some s → Fits l s
      → width ss a ≡ length l
  side_width a s l e f = width_is ss a s e ∙ sym (fits_length l s f)

  -- the condition has only columns of the left side
  pub filter_left_alike : (k : List Pair) (c p q : Expr) (a b : Plan)
      → expr_changed (only_below (width ss a)) p ≡ Some q
      → Alike ss (Filter p (Join k c a b)) (Join k c (Filter q a) b)
  filter_left_alike k c p q a b h t u =
      let j = join_under ss k c a b (filter_typed ss p (Join k c a b) t) in
      let flag = filter_flag ss p (Join k c a b) (j.left_kinds ++ j.right_kinds) j.whole_is t in
      left_alike k c p q a b j
      (λ l r f g. sym (ap is_true (changed_value (only_below (width ss a))
      (j.left_kinds ++ j.right_kinds) (l ++ r) l
      (left_places l r (width ss a) (j.left_kinds ++ j.right_kinds)
      (side_width a j.left_kinds l j.left f)) p q kind.Flag flag h))) t u

  -- the same condition below the join, and above it
  pub filter_left_back_alike : (k : List Pair) (c p q : Expr) (a b : Plan)
      → expr_changed (only_below (width ss a)) q ≡ Some p
      → Alike ss (Join k c (Filter q a) b) (Filter p (Join k c a b))
  filter_left_back_alike k c p q a b h u t =
      let j = join_under ss k c a b (filter_typed ss p (Join k c a b) t) in
      let flag = filter_flag ss q a j.left_kinds j.left (join_left_typed k c (Filter q a) b u) in
      let s = left_alike k c p q a b j
      (λ l r f g. ap is_true (changed_value (only_below (width ss a)) j.left_kinds l (l ++ r)
      (kept_places l r (width ss a) j.left_kinds
      (side_width a j.left_kinds l j.left f)) q p kind.Flag flag h)) t u in
      (alike-sym ss (Filter p (Join k c a b)) (Join k c (Filter q a) b) (λ t' u'. s)) u t

  -- the condition has only columns of the right side
  pub filter_right_alike : (k : List Pair) (c p q : Expr) (a b : Plan)
      → expr_changed (lower_by (width ss a)) p ≡ Some q
      → Alike ss (Filter p (Join k c a b)) (Join k c a (Filter q b))
  filter_right_alike k c p q a b h t u =
      let j = join_under ss k c a b (filter_typed ss p (Join k c a b) t) in
      let flag = filter_flag ss p (Join k c a b) (j.left_kinds ++ j.right_kinds) j.whole_is t in
      right_alike k c p q a b j
      (λ l r f g. sym (ap is_true (changed_value (lower_by (width ss a))
      (j.left_kinds ++ j.right_kinds) (l ++ r) r
      (right_places l r (width ss a) (j.left_kinds ++ j.right_kinds)
      (side_width a j.left_kinds l j.left f)) p q kind.Flag flag h))) t u

  pub filter_right_back_alike : (k : List Pair) (c p q : Expr) (a b : Plan)
      → expr_changed (raise_by (width ss a)) q ≡ Some p
      → Alike ss (Join k c a (Filter q b)) (Filter p (Join k c a b))
  filter_right_back_alike k c p q a b h u t =
      let j = join_under ss k c a b (filter_typed ss p (Join k c a b) t) in
      let room = (join_is k c j.left_kinds j.right_kinds (j.left_kinds ++ j.right_kinds)
      j.typed).1 in
      let flag = filter_flag ss q b j.right_kinds j.right
      (join_right_typed k c a (Filter q b) u) in
      let s = right_alike k c p q a b j
      (λ l r f g. ap is_true (changed_value (raise_by (width ss a)) j.right_kinds r (l ++ r)
      (raised_places l r (width ss a) j.right_kinds (side_width a j.left_kinds l j.left f)
      (omega (arith, room, fits_length l j.left_kinds f))) q p kind.Flag flag h)) t u in
      (alike-sym ss (Filter p (Join k c a b)) (Join k c a (Filter q b)) (λ t' u'. s)) u t

  -- ---- conditions of joins

  pair_and_both : (x y z : Bool) → (z && (x && y)) ≡ (x && (y && z))
  pair_and_both true true true = refl
  pair_and_both true true false = refl
  pair_and_both true false true = refl
  pair_and_both true false false = refl
  pair_and_both false true true = refl
  pair_and_both false true false = refl
  pair_and_both false false true = refl
  pair_and_both false false false = refl

  -- a filter joins the condition
  pub filter_cond_alike : (k : List Pair) (c c' p : Expr) (a b : Plan)
      → ((row : Row) → passes c' row ≡ (passes c row && passes p row))
      → Alike ss (Filter p (Join k c a b)) (Join k c' a b)
  filter_cond_alike k c c' p a b h t u =
      let j = join_under ss k c a b (filter_typed ss p (Join k c a b) t) in
      record {
        kinds = filter_keeps ss p (Join k c a b) t
            ∙ join_same_kinds k k c c' a a b b (filter_typed ss p (Join k c a b) t) u refl refl;
        answers = λ bags fit. same_answers
            (alg-Filter p (Join k c a b) bags ∙ ap (filter (passes p)) (alg-Join k c a b bags))
            (alg-Join k c' a b bags)
            (same_rows (
            ap (filter (passes p)) (joined-by k c (alg a bags) (alg b bags))
            ∙ filter-joined (passes p) (meets k c) (alg a bags) (alg b bags)
            ∙ joined_alike (λ l. Fits l j.left_kinds) (λ r. Fits r j.right_kinds)
            (λ l r. passes p (l ++ r) && meets k c l r) (meets k c')
            (λ l r f g. pair_and_both (pairs_equal k l r) (passes c (l ++ r))
            (passes p (l ++ r)) ∙ ap (λ z. pairs_equal k l r && z) (sym (h (l ++ r))))
            (alg a bags) (alg b bags)
            (answer_fits ss bags fit a j.left_kinds j.left)
            (answer_fits ss bags fit b j.right_kinds j.right)
            ∙ sym (joined-by k c' (alg a bags) (alg b bags))));
      }

  -- ---- joins over unions

  join_append : (k : List Pair) (c : Expr) (xs us ys : List Row)
      → joined k c (xs ++ us) ys ≡ joined k c xs ys ++ joined k c us ys
  unfolding joined
  join_append k c xs us ys = flat_map-append (λ l. flat_map (joined_row k c l) ys) xs us

  join_append_right : (k : List Pair) (c : Expr) (xs ys us : List Row)
      → Perm (joined k c xs (ys ++ us)) (joined k c xs ys ++ joined k c xs us)
  unfolding joined
  join_append_right k c xs ys us =
      then (Perm-each (λ l. flat_map (joined_row k c l) (ys ++ us))
      (λ l. flat_map (joined_row k c l) ys ++ flat_map (joined_row k c l) us)
      (λ l. Perm-equal (flat_map-append (joined_row k c l) ys us)) xs)
      (Perm-split (λ l. flat_map (joined_row k c l) ys) (λ l. flat_map (joined_row k c l) us) xs)

  pub join_union_alike : (k : List Pair) (c : Expr) (a b z : Plan)
      → Alike ss (Join k c (Union a b) z) (Union (Join k c a z) (Join k c b z))
  join_union_alike k c a b z t u = record {
    kinds = join_same_kinds k k c c (Union a b) a z z t
        (union_left_typed ss (Join k c a z) (Join k c b z) u)
        (union_keeps ss a b (join_left_typed k c (Union a b) z t)) refl
        ∙ sym (union_keeps ss (Join k c a z) (Join k c b z) u);
    answers = λ bags fit. same_answers
        (alg-Join k c (Union a b) z bags
        ∙ ap (λ (xs : List Row). joined k c xs (alg z bags)) (alg-Union a b bags))
        (alg-Union (Join k c a z) (Join k c b z) bags
        ∙ both_equal ◌++◌ (alg-Join k c a z bags) (alg-Join k c b z bags))
        (same_rows (join_append k c (alg a bags) (alg b bags) (alg z bags)));
  }

  pub join_union_right_alike : (k : List Pair) (c : Expr) (a b z : Plan)
      → Alike ss (Join k c a (Union b z)) (Union (Join k c a b) (Join k c a z))
  join_union_right_alike k c a b z t u = record {
    kinds = join_same_kinds k k c c a a (Union b z) b t
        (union_left_typed ss (Join k c a b) (Join k c a z) u)
        refl (union_keeps ss b z (join_right_typed k c a (Union b z) t))
        ∙ sym (union_keeps ss (Join k c a b) (Join k c a z) u);
    answers = λ bags fit. same_answers
        (alg-Join k c a (Union b z) bags
        ∙ ap (λ (xs : List Row). joined k c (alg a bags) xs) (alg-Union b z bags))
        (alg-Union (Join k c a b) (Join k c a z) bags
        ∙ both_equal ◌++◌ (alg-Join k c a b bags) (alg-Join k c a z bags))
        (SameBag-Perm (join_append_right k c (alg a bags) (alg b bags) (alg z bags)));
  }
