-- Joins of three plans mean the same however they are grouped.
use Rattle.std.proofs.Common.{◌≡◌, ℕ, ◌+◌, ◌-◌, ◌<◌, ◌≤◌, Bool, true, false, ◌&&◌, cond, List, []}
use Rattle.std.proofs.Common.{◌∷◌, ◌++◌, length, map, refl, sym, ap, ◌∙◌, subst, arith, Option}
use Rattle.std.proofs.Common.{Some, None, length-append, append_assoc, slice_get}
use Rattle.std.specs.Prelude.{nat_lt, nat_le}
use Rattle.std.specs.List.{All, filter}
use Rattle.std.proofs.lemmas.Bool.Decides.{nat_tests}
use Rattle.std.proofs.lemmas.Option.{slice_get_within}
use Rattle.std.proofs.lemmas.Bool.{and_parts}
use Rattle.pipes_tuple.specs.declared.value.Value.{Value}
use Rattle.pipes_tuple.specs.declared.value.Kind.{Kind}
use Rattle.pipes_tuple.specs.declared.value.Kind.TheVariants as kind
use Rattle.pipes_tuple.specs.Kinds.{kind_of, Fits}
use Rattle.pipes_tuple.specs.Equal.{value_eq}
use Rattle.pipes_expr.specs.declared.op.Op.{Op}
use Rattle.pipes_expr.specs.declared.expr.Expr.{Expr}
use Rattle.pipes_expr.specs.declared.expr.Expr.TheVariants.{Col, Literal, Binary, Not}
use Rattle.pipes_expr.specs.ExprValue.{Row, column, is_true, passes, value_of, op_value, not_value}
use Rattle.pipes_expr.specs.ExprKind.{expr_kind, op_kind, not_kind, only}
use Rattle.pipes_expr.proofs.ConcatenatedRows.{column_left, column_right}
use Rattle.pipes_expr.proofs.ExprInduction.{Cases, induct}
use Rattle.pipes_expr.proofs.ExprTyped.{operands}
use Rattle.pipes_expr.proofs.ExprEquations.{value_of-Col, expr_kind-Col, value_of-Literal}
use Rattle.pipes_expr.proofs.ExprEquations.{value_of-Binary, expr_kind-Binary, value_of-Not}
use Rattle.pipes_expr.proofs.ExprEquations.{expr_kind-Not}
use Rattle.pipes_relation.specs.declared.lists.Pair.{Pair}
use Rattle.pipes_plan.specs.declared.plan.Plan.{Plan}
use Rattle.pipes_plan.specs.declared.plan.Plan.TheVariants.{Join}
use Rattle.pipes_plan.specs.Algebra.{alg}
use Rattle.pipes_relation.specs.Relations.{pairs_equal, meets, joined}
use Rattle.pipes_plan.specs.PlanKinds.{plan_kinds, IsTyped, is_alike, pairs_alike}
use Rattle.pipes_plan.proofs.PlanEquations.{alg-Join}
use Rattle.pipes_plan.proofs.AnswerFits.{answer_fits}
use Rattle.pipes_rewrite.specs.Changes.{sum_32, raise_by, expr_changed, truth, conjunction}
use Rattle.pipes_rewrite.specs.JoinForms.{inner_pairs, outer_pairs, near_pairs, far_pairs}
use Rattle.pipes_rewrite.specs.SameMeaning.{SameMeaning, Alike}
use Rattle.pipes_rewrite.specs.Widths.{width}
use Rattle.pipes_rewrite.proofs.ChangedValues.{only_there}
use Rattle.pipes_rewrite.proofs.ChangedValues.{changed_value}
use Rattle.pipes_rule_laws.proofs.JoinedRows.{joined_by, joined-by, three_joined, three_alike}
use Rattle.pipes_rule_laws.proofs.JoinedRows.{joined_then_joined, joined_with_joined}
use Rattle.pipes_rule_laws.proofs.JoinSound.{fits_length, fits_both, raised_places, passes-truth}
use Rattle.pipes_rule_laws.proofs.JoinSound.{passes-conjunction, join_left_typed, join_right_typed}
use Rattle.pipes_rule_laws.proofs.RowWidth.{width_is, sum_within}
use Rattle.pipes_rule_laws.proofs.Same.{some_schema, same_rows, same_answers, both_equal, typed_as}
use Rattle.pipes_rule_laws.proofs.Same.{join_under, UnderJoin}
use Rattle.pipes_rule_laws.proofs.SideSound.{JoinParts, join_parts}

-- ---- the value on a row and columns after it

abbrev SameBefore : List Kind → Row → Row → Expr → Type 0
SameBefore s row rest e = (k : Kind) → expr_kind e s ≡ Some k
    → value_of e (row ++ rest) ≡ value_of e row

before_cases : (s : List Kind) (row rest : Row) → length row ≡ length s
    → Cases (SameBefore s row rest)
before_cases s row rest n = record {
  col = λ i k h. value_of-Col i (row ++ rest) ∙ column_left row rest i
      (omega (arith, n, slice_get_within s i k (sym (expr_kind-Col i s) ∙ h)))
      ∙ sym (value_of-Col i row);
  literal = λ v k h. value_of-Literal v (row ++ rest) ∙ sym (value_of-Literal v row);
  binary = λ o a b p q k h.
      let t = operands (op_kind o) (expr_kind a s) (expr_kind b s) k
      (sym (expr_kind-Binary o a b s) ∙ h) in
      value_of-Binary o a b (row ++ rest)
      ∙ ap (λ v. op_value o v (value_of b (row ++ rest))) (p t.left t.left_is)
      ∙ ap (op_value o (value_of a row)) (q t.right t.right_is)
      ∙ sym (value_of-Binary o a b row);
  not = λ a p k h.
      let t = only_there not_kind (expr_kind a s) k (sym (expr_kind-Not a s) ∙ h) in
      value_of-Not a (row ++ rest) ∙ ap not_value (p t.0 t.1) ∙ sym (value_of-Not a row);
}

-- columns after those of the schema don't change a typed expression's value
value_before : (s : List Kind) (row rest : Row) → length row ≡ length s → (e : Expr) (k : Kind)
    → expr_kind e s ≡ Some k → value_of e (row ++ rest) ≡ value_of e row
value_before s row rest n e k h = induct (SameBefore s row rest) (before_cases s row rest n) e k h

-- ---- the columns of pairs

-- the columns of each pair are below these widths
abbrev pub PairsBelow : ℕ → ℕ → List Pair → Type 0
PairsBelow m n [] = Unit {0}
PairsBelow m n (p ∷ k) = (p.left < m) × (p.right < n) × PairsBelow m n k

alike_there : (s t : List Kind) (i j : ℕ) → is_alike (slice_get s i) (slice_get t j) ≡ true
    → (i < length s) × (j < length t)
alike_there s t i j h = go (slice_get s i) (slice_get t j) refl refl h where
  go : (o q : Option Kind) → o ≡ slice_get s i → q ≡ slice_get t j → is_alike o q ≡ true
      → (i < length s) × (j < length t)
  go (Some a) (Some b) e f g = (slice_get_within s i a (sym e), slice_get_within t j b (sym f))
  go (Some a) None e f g = cc
  go None q e f g = cc

pairs_below : (s t : List Kind) (k : List Pair) → pairs_alike s t k ≡ true
    → PairsBelow (length s) (length t) k
pairs_below s t [] h = tt
pairs_below s t (p ∷ k) h =
    let w = and_parts (is_alike (slice_get s p.left) (slice_get t p.right)) (pairs_alike s t k) h in
    let v = alike_there s t p.left p.right w.0 in
    (v.0, v.1, pairs_below s t k w.1)

pairs_equal-append : (k n : List Pair) (l r : Row)
    → pairs_equal (k ++ n) l r ≡ (pairs_equal k l r && pairs_equal n l r)
pairs_equal-append [] n l r = refl
pairs_equal-append (p ∷ k) n l r = rw (pairs_equal-append k n l r)
    (and_assoc (value_eq (column l p.left) (column r p.right)) (pairs_equal k l r)
    (pairs_equal n l r)) where
      and_assoc : (x y z : Bool) → (x && (y && z)) ≡ ((x && y) && z)
      and_assoc true y z = refl
      and_assoc false y z = refl

-- columns after the right row's don't matter
pairs_before : (m : ℕ) (k : List Pair) (x y z : Row) → PairsBelow m (length y) k
    → pairs_equal k x (y ++ z) ≡ pairs_equal k x y
pairs_before m [] x y z h = refl
pairs_before m (p ∷ k) x y z h = rw (column_left y z p.right h.1, pairs_before m k x y z h.2) refl

-- ---- pairs of the one and of the other row

either : (x y z : Bool) → (x && (y && z)) ≡ ((x && y) && z)
either true y z = refl
either false y z = refl

other : (x y z : Bool) → (x && (y && z)) ≡ (y && (x && z))
other true true z = refl
other true false z = refl
other false true z = refl
other false false z = refl

abbrev lowered : ℕ → Pair → Pair
lowered a p = record { left = p.left - a; right = p.right }

abbrev raised : ℕ → Pair → Pair
raised b p = record { left = p.left; right = sum_32 b p.right }

-- the pairs of a concatenation and a third row are those of its parts
split_pairs : (k : List Pair) (x y z : Row) (a b : ℕ) → a ≡ length x → b ≡ length y
    → PairsBelow (length x + length y) (length z) k → length y + length z ≤ 64
    → pairs_equal k (x ++ y) z ≡ (pairs_equal (inner_pairs a k) y z
    && pairs_equal (map (raised b) (filter (λ p. nat_lt p.left a) k)) x (y ++ z))
split_pairs [] x y z a b ea eb h room = refl
split_pairs (p ∷ k) x y z a b ea eb h room =
    step (nat_lt p.left a) (nat_le a p.left) refl refl
    (split_pairs k x y z a b ea eb h.2 room) where
      step : (c d : Bool) → c ≡ nat_lt p.left a → d ≡ nat_le a p.left
          → pairs_equal k (x ++ y) z ≡ (pairs_equal (inner_pairs a k) y z
          && pairs_equal (map (raised b) (filter (λ p. nat_lt p.left a) k)) x (y ++ z))
          → (value_eq (column (x ++ y) p.left) (column z p.right) && pairs_equal k (x ++ y) z)
          ≡ (pairs_equal (map (lowered a) (cond d (p ∷ filter (λ p. nat_le a p.left) k)
          (filter (λ p. nat_le a p.left) k))) y z
          && pairs_equal (map (raised b) (cond c (p ∷ filter (λ p. nat_lt p.left a) k)
          (filter (λ p. nat_lt p.left a) k))) x (y ++ z))
      step true true e f g = absurd (grind (arith, nat_tests))
      step false false e f g = absurd (grind (arith, nat_tests))
      step true false e f g =
          let near : p.left < a = grind (arith, nat_tests) in
          let left = column_left x y p.left (omega (arith, near, ea)) in
          let past : sum_32 b p.right ≡ length y + p.right = sum_within b p.right
          (omega (arith, eb, h.1, room)) ∙ ap (λ n. n + p.right) eb in
          let back : (length y + p.right) - length y ≡ p.right = omega arith in
          let right = ap (column (y ++ z)) past ∙ column_right y z (length y + p.right)
          (omega arith)
          ∙ ap (column z) back in
          ap (λ w. value_eq (column (x ++ y) p.left) (column z p.right) && w) g
          ∙ other (value_eq (column (x ++ y) p.left) (column z p.right))
          (pairs_equal (inner_pairs a k) y z)
          (pairs_equal (map (raised b) (filter (λ p. nat_lt p.left a) k)) x (y ++ z))
          ∙ rw (left, right) refl
      step false true e f g =
          let far : a ≤ p.left = grind (arith, nat_tests) in
          let left = column_right x y p.left (omega (arith, far, ea))
          ∙ ap (λ n. column y (p.left - n)) (sym ea) in
          ap (λ w. value_eq (column (x ++ y) p.left) (column z p.right) && w) g
          ∙ either (value_eq (column (x ++ y) p.left) (column z p.right))
          (pairs_equal (inner_pairs a k) y z)
          (pairs_equal (map (raised b) (filter (λ p. nat_lt p.left a) k)) x (y ++ z))
          ∙ rw left refl

-- ---- joins of joins

four_other : (w x y z u : Bool) → ((w && x) && ((y && z) && u)) ≡
    ((y && true) && ((w && z) && (x && u)))
four_other true true true true u = refl
four_other true true true false u = refl
four_other true true false z u = refl
four_other true false true true u = refl
four_other true false true false u = refl
four_other true false false z u = refl
four_other false true true z u = refl
four_other false true false z u = refl
four_other false false true z u = refl
four_other false false false z u = refl

-- the rows of three plans that meet, grouped to the left and to the right
module _ (k1 k2 : List Pair) (c1 c2 : Expr) (s t u : List Kind) (x y z : Row)
    (fx : Fits x s) (fy : Fits y t) (fz : Fits z u) (first : JoinParts k2 c2 s t)
    (second : JoinParts k1 c1 (s ++ t) u) (a b : ℕ) (ea : a ≡ length s) (eb : b ≡ length t) where
  regrouped : (meets k2 c2 x y && meets k1 c1 (x ++ y) z)
      ≡ (meets (inner_pairs a k1) truth y z
      && meets (outer_pairs a b k2 k1) (conjunction c2 c1) x (y ++ z))
  regrouped =
      let nx = fits_length x s fx in
      let ny = fits_length y t fy in
      let nz = fits_length z u fz in
      let room = second.room in
      let wide = length-append s t in
      let below = subst (λ n. PairsBelow n (length u) k1) wide
      (pairs_below (s ++ t) u k1 second.pairs) in
      let below' = subst (λ m. PairsBelow (m + length y) (length z) k1) (sym nx)
      (subst (λ n. PairsBelow (length s + n) (length z) k1) (sym ny)
      (subst (λ n. PairsBelow (length s + length t) n k1) (sym nz) below)) in
      let split = split_pairs k1 x y z a b (ea ∙ sym nx) (eb ∙ sym ny) below'
      (omega (arith, room, wide, ny, nz)) in
      let inner = pairs_equal (inner_pairs a k1) y z in
      let far = map (raised b) (filter (λ p. nat_lt p.left a) k1) in
      let outer = pairs_equal far x (y ++ z) in
      let kept : pairs_equal k2 x (y ++ z) ≡ pairs_equal k2 x y =
      pairs_before (length s) k2 x y z
      (subst (λ n. PairsBelow (length s) n k2) (sym ny) (pairs_below s t k2 first.pairs)) in
      let both = pairs_equal-append k2 far x (y ++ z)
      ∙ ap (λ w. w && outer) kept in
      let row : (x ++ y) ++ z ≡ x ++ (y ++ z) = append_assoc x y z in
      let c2_is : passes c2 (x ++ (y ++ z)) ≡ passes c2 (x ++ y) =
      ap (passes c2) (sym row)
      ∙ ap is_true (value_before (s ++ t) (x ++ y) z
      (fits_length (x ++ y) (s ++ t) (fits_both x y s t fx fy)) c2 kind.Flag first.condition) in
      let c1_is : passes c1 ((x ++ y) ++ z) ≡ passes c1 (x ++ (y ++ z)) = ap (passes c1) row in
      ap (λ w. (pairs_equal k2 x y && passes c2 (x ++ y)) && (w && passes c1 ((x ++ y) ++ z))) split
      ∙ ap (λ w. (pairs_equal k2 x y && passes c2 (x ++ y)) && ((inner && outer) && w)) c1_is
      ∙ four_other (pairs_equal k2 x y) (passes c2 (x ++ y)) inner outer (passes c1 (x ++ (y ++ z)))
      ∙ sym (ap (λ w. (inner && w) && (pairs_equal (outer_pairs a b k2 k1) x (y ++ z)
      && passes (conjunction c2 c1) (x ++ (y ++ z)))) (passes-truth (y ++ z))
      ∙ ap (λ w. (inner && true) && (w && passes (conjunction c2 c1) (x ++ (y ++ z)))) both
      ∙ ap (λ w. (inner && true) && ((pairs_equal k2 x y && outer) && w))
      (passes-conjunction c2 c1 (x ++ (y ++ z))
      ∙ ap (λ w. w && passes c1 (x ++ (y ++ z))) c2_is))

module _ (ss : List (List Kind)) where
  pub join_assoc_alike : (k1 k2 : List Pair) (c1 c2 : Expr) (a b c : Plan)
      → Alike ss (Join k1 c1 (Join k2 c2 a b) c)
      (Join (outer_pairs (width ss a) (width ss b) k2 k1) (conjunction c2 c1) a
      (Join (inner_pairs (width ss a) k1) truth b c))
  join_assoc_alike k1 k2 c1 c2 a b c t u =
      let wa = width ss a in
      let wb = width ss b in
      let outer = outer_pairs wa wb k2 k1 in
      let inner = inner_pairs wa k1 in
      let cond = conjunction c2 c1 in
      let j = join_under ss k1 c1 (Join k2 c2 a b) c t in
      let i = join_under ss k2 c2 a b (join_left_typed ss k1 c1 (Join k2 c2 a b) c t) in
      let v = join_under ss outer cond a (Join inner truth b c) u in
      let w = join_under ss inner truth b c
      (join_right_typed ss outer cond a (Join inner truth b c) u) in
      let left : j.left_kinds ≡ i.left_kinds ++ i.right_kinds = some_schema (sym j.left
      ∙ i.whole_is) in
      let ea = some_schema (sym v.left ∙ i.left) in
      let eb = some_schema (sym w.left ∙ i.right) in
      let ec = some_schema (sym w.right ∙ j.right) in
      let right : v.right_kinds ≡ i.right_kinds ++ j.right_kinds = some_schema (sym v.right
      ∙ w.whole_is) ∙ ap (λ (z : List Kind). z ++ w.right_kinds) eb
      ∙ ap (λ (z : List Kind). i.right_kinds ++ z) ec in
      let first = join_parts k2 c2 i.left_kinds i.right_kinds _ i.typed in
      let second = subst (λ (z : List Kind). JoinParts k1 c1 z j.right_kinds) left
      (join_parts k1 c1 j.left_kinds j.right_kinds _ j.typed) in
      record {
        kinds = j.whole_is ∙ ap Some (ap (λ (z : List Kind). z ++ j.right_kinds) left
            ∙ append_assoc i.left_kinds i.right_kinds j.right_kinds
            ∙ sym (ap (λ (z : List Kind). z ++ v.right_kinds) ea
            ∙ ap (λ (z : List Kind). i.left_kinds ++ z) right)) ∙ sym v.whole_is;
        answers = λ bags fit. same_answers
            (alg-Join k1 c1 (Join k2 c2 a b) c bags
            ∙ ap (λ (xs : List Row). joined k1 c1 xs (alg c bags)) (alg-Join k2 c2 a b bags))
            (alg-Join outer cond a (Join inner truth b c) bags
            ∙ ap (joined outer cond (alg a bags)) (alg-Join inner truth b c bags))
            (same_rows (
            joined-by k1 c1 (joined k2 c2 (alg a bags) (alg b bags)) (alg c bags)
            ∙ ap (λ (xs : List Row). joined_by (meets k1 c1) xs (alg c bags))
            (joined-by k2 c2 (alg a bags) (alg b bags))
            ∙ joined_then_joined (meets k1 c1) (meets k2 c2) (alg a bags) (alg b bags)
            (alg c bags)
            ∙ three_alike (λ x. Fits x i.left_kinds) (λ y. Fits y i.right_kinds)
            (λ z. Fits z j.right_kinds)
            (λ x y z. meets k2 c2 x y && meets k1 c1 (x ++ y) z)
            (λ x y z. meets inner truth y z && meets outer cond x (y ++ z))
            (λ x y z fx fy fz. regrouped k1 k2 c1 c2 i.left_kinds i.right_kinds j.right_kinds
            x y z fx fy fz first second wa wb (width_is ss a i.left_kinds i.left)
            (width_is ss b i.right_kinds i.right))
            (alg a bags) (alg b bags) (alg c bags)
            (answer_fits ss bags fit a i.left_kinds i.left)
            (answer_fits ss bags fit b i.right_kinds i.right)
            (answer_fits ss bags fit c j.right_kinds j.right)
            ∙ sym (joined_with_joined (meets outer cond) (meets inner truth) (alg a bags)
            (alg b bags) (alg c bags))
            ∙ sym (ap (joined_by (meets outer cond) (alg a bags))
            (joined-by inner truth (alg b bags) (alg c bags)))
            ∙ sym (joined-by outer cond (alg a bags)
            (joined inner truth (alg b bags) (alg c bags)))));
      }

-- ---- the same, back

-- the pairs of one row and a concatenation are those of its parts
split_right : (k : List Pair) (x y z : Row) (b : ℕ) → b ≡ length y
    → PairsBelow (length x) (length y + length z) k
    → pairs_equal k x (y ++ z) ≡ (pairs_equal (near_pairs b k) x y
    && pairs_equal (map (λ p. record { left = p.left; right = p.right - b })
    (filter (λ p. nat_le b p.right) k)) (x ++ y) z)
split_right [] x y z b eb h = refl
split_right (p ∷ k) x y z b eb h =
    step (nat_lt p.right b) (nat_le b p.right) refl refl (split_right k x y z b eb h.2) where
      step : (c d : Bool) → c ≡ nat_lt p.right b → d ≡ nat_le b p.right
          → pairs_equal k x (y ++ z) ≡ (pairs_equal (near_pairs b k) x y
          && pairs_equal (map (λ p. record { left = p.left; right = p.right - b })
          (filter (λ p. nat_le b p.right) k)) (x ++ y) z)
          → (value_eq (column x p.left) (column (y ++ z) p.right) && pairs_equal k x (y ++ z))
          ≡ (pairs_equal (cond c (p ∷ near_pairs b k) (near_pairs b k)) x y
          && pairs_equal (map (λ p. record { left = p.left; right = p.right - b })
          (cond d (p ∷ filter (λ p. nat_le b p.right) k) (filter (λ p. nat_le b p.right) k)))
          (x ++ y) z)
      step true true e f g = absurd (grind (arith, nat_tests))
      step false false e f g = absurd (grind (arith, nat_tests))
      step true false e f g =
          let near : p.right < b = grind (arith, nat_tests) in
          let right = column_left y z p.right (omega (arith, near, eb)) in
          ap (λ w. value_eq (column x p.left) (column (y ++ z) p.right) && w) g
          ∙ either (value_eq (column x p.left) (column (y ++ z) p.right))
          (pairs_equal (near_pairs b k) x y)
          (pairs_equal (map (λ p. record { left = p.left; right = p.right - b })
          (filter (λ p. nat_le b p.right) k)) (x ++ y) z)
          ∙ rw right refl
      step false true e f g =
          let far : b ≤ p.right = grind (arith, nat_tests) in
          let right = column_right y z p.right (omega (arith, far, eb))
          ∙ ap (λ n. column z (p.right - n)) (sym eb) in
          let left = column_left x y p.left h.0 in
          ap (λ w. value_eq (column x p.left) (column (y ++ z) p.right) && w) g
          ∙ other (value_eq (column x p.left) (column (y ++ z) p.right))
          (pairs_equal (near_pairs b k) x y)
          (pairs_equal (map (λ p. record { left = p.left; right = p.right - b })
          (filter (λ p. nat_le b p.right) k)) (x ++ y) z)
          ∙ rw (left, right) refl

-- pairs whose left columns follow another row's
moved_pairs : (n : List Pair) (x y z : Row) (a m : ℕ) → a ≡ length x
    → length x + length y ≤ 64 → PairsBelow (length y) m n
    → pairs_equal (map (λ p. record { left = sum_32 p.left a; right = p.right }) n) (x ++ y) z
    ≡ pairs_equal n y z
moved_pairs [] x y z a m ea room h = refl
moved_pairs (p ∷ n) x y z a m ea room h =
    let past : sum_32 p.left a ≡ p.left + length x = ap (sum_32 p.left) ea
    ∙ sum_within p.left (length x) (omega (arith, room, h.0)) in
    let back : (p.left + length x) - length x ≡ p.left = omega arith in
    let left = ap (column (x ++ y)) past ∙ column_right x y (p.left + length x) (omega arith)
    ∙ ap (column y) back in
    rw (left, moved_pairs n x y z a m ea room h.2) refl

five : (w x y z u : Bool) → ((w && x) && ((y && z) && u)) ≡ ((y && true) && ((w && z) && (u && x)))
five true true true true true = refl
five true true true true false = refl
five true true true false u = refl
five true true false z u = refl
five true false true true true = refl
five true false true true false = refl
five true false true false u = refl
five true false false z u = refl
five false x true z u = refl
five false x false z u = refl

module _ (k n : List Pair) (c d e : Expr) (s t u : List Kind) (x y z : Row)
    (fx : Fits x s) (fy : Fits y t) (fz : Fits z u) (first : JoinParts n d t u)
    (second : JoinParts k c s (t ++ u)) (a b : ℕ) (ea : a ≡ length s) (eb : b ≡ length t)
    (changed : expr_changed (raise_by a) d ≡ Some e) where
  regrouped_back : (meets n d y z && meets k c x (y ++ z))
      ≡ (meets (near_pairs b k) truth x y && meets (far_pairs a b n k) (conjunction c e) (x ++ y) z)
  regrouped_back =
      let nx = fits_length x s fx in
      let ny = fits_length y t fy in
      let nz = fits_length z u fz in
      let room = second.room in
      let wide = length-append t u in
      let below = subst (λ m. PairsBelow (length s) m k) wide
      (pairs_below s (t ++ u) k second.pairs) in
      let below' = subst (λ m. PairsBelow m (length y + length z) k) (sym nx)
      (subst (λ m. PairsBelow (length s) (m + length z) k) (sym ny)
      (subst (λ m. PairsBelow (length s) (length t + m) k) (sym nz) below)) in
      let split = split_right k x y z b (eb ∙ sym ny) below' in
      let near = pairs_equal (near_pairs b k) x y in
      let rest = map (λ p. record { left = p.left; right = p.right - b })
      (filter (λ p. nat_le b p.right) k) in
      let far = pairs_equal rest (x ++ y) z in
      let moved = moved_pairs n x y z a (length u) (ea ∙ sym nx)
      (omega (arith, room, wide, nx, ny))
      (subst (λ m. PairsBelow m (length u) n) (sym ny) (pairs_below t u n first.pairs)) in
      let both = pairs_equal-append (map (λ p. record { left = sum_32 p.left a; right = p.right })
      n)
      rest (x ++ y) z ∙ ap (λ w. w && far) moved in
      let row : (x ++ y) ++ z ≡ x ++ (y ++ z) = append_assoc x y z in
      let d_is : passes e ((x ++ y) ++ z) ≡ passes d (y ++ z) = ap (passes e) row
      ∙ ap is_true (changed_value (raise_by a) (t ++ u) (y ++ z) (x ++ (y ++ z))
      (raised_places x (y ++ z) a (t ++ u) (ea ∙ sym nx) (omega (arith, room, nx)))
      d e kind.Flag first.condition changed) in
      let c_is : passes c ((x ++ y) ++ z) ≡ passes c (x ++ (y ++ z)) = ap (passes c) row in
      ap (λ w. (pairs_equal n y z && passes d (y ++ z)) && (w && passes c (x ++ (y ++ z)))) split
      ∙ five (pairs_equal n y z) (passes d (y ++ z)) near far (passes c (x ++ (y ++ z)))
      ∙ sym (ap (λ w. (near && w) && (pairs_equal (far_pairs a b n k) (x ++ y) z
      && passes (conjunction c e) ((x ++ y) ++ z))) (passes-truth (x ++ y))
      ∙ ap (λ w. (near && true) && (w && passes (conjunction c e) ((x ++ y) ++ z))) both
      ∙ ap (λ w. (near && true) && ((pairs_equal n y z && far) && w))
      (passes-conjunction c e ((x ++ y) ++ z)
      ∙ ap (λ w. w && passes e ((x ++ y) ++ z)) c_is
      ∙ ap (λ w. passes c (x ++ (y ++ z)) && w) d_is))

module _ (ss : List (List Kind)) where
  pub join_assoc_back_alike : (k n : List Pair) (c d e : Expr) (a b z : Plan)
      → expr_changed (raise_by (width ss a)) d ≡ Some e
      → Alike ss (Join k c a (Join n d b z))
      (Join (far_pairs (width ss a) (width ss b) n k) (conjunction c e)
      (Join (near_pairs (width ss b) k) truth a b) z)
  join_assoc_back_alike k n c d e a b z h t u =
      let wa = width ss a in
      let wb = width ss b in
      let outer = far_pairs wa wb n k in
      let inner = near_pairs wb k in
      let cond = conjunction c e in
      let j = join_under ss k c a (Join n d b z) t in
      let i = join_under ss n d b z (join_right_typed ss k c a (Join n d b z) t) in
      let v = join_under ss outer cond (Join inner truth a b) z u in
      let w = join_under ss inner truth a b
      (join_left_typed ss outer cond (Join inner truth a b) z u) in
      let right : j.right_kinds ≡ i.left_kinds ++ i.right_kinds = some_schema (sym j.right
      ∙ i.whole_is) in
      let ea = some_schema (sym w.left ∙ j.left) in
      let eb = some_schema (sym w.right ∙ i.left) in
      let ez = some_schema (sym v.right ∙ i.right) in
      let left : v.left_kinds ≡ j.left_kinds ++ i.left_kinds = some_schema (sym v.left
      ∙ w.whole_is) ∙ ap (λ (q : List Kind). q ++ w.right_kinds) ea
      ∙ ap (λ (q : List Kind). j.left_kinds ++ q) eb in
      let first = join_parts n d i.left_kinds i.right_kinds _ i.typed in
      let second = subst (λ (q : List Kind). JoinParts k c j.left_kinds q) right
      (join_parts k c j.left_kinds j.right_kinds _ j.typed) in
      record {
        kinds = j.whole_is ∙ ap Some (ap (λ (q : List Kind). j.left_kinds ++ q) right
            ∙ sym (append_assoc j.left_kinds i.left_kinds i.right_kinds)
            ∙ sym (ap (λ (q : List Kind). q ++ v.right_kinds) left
            ∙ ap (λ (q : List Kind). (j.left_kinds ++ i.left_kinds) ++ q) ez)) ∙ sym v.whole_is;
        answers = λ bags fit. same_answers
            (alg-Join k c a (Join n d b z) bags
            ∙ ap (joined k c (alg a bags)) (alg-Join n d b z bags))
            (alg-Join outer cond (Join inner truth a b) z bags
            ∙ ap (λ (xs : List Row). joined outer cond xs (alg z bags))
            (alg-Join inner truth a b bags))
            (same_rows (
            joined-by k c (alg a bags) (joined n d (alg b bags) (alg z bags))
            ∙ ap (joined_by (meets k c) (alg a bags)) (joined-by n d (alg b bags) (alg z bags))
            ∙ joined_with_joined (meets k c) (meets n d) (alg a bags) (alg b bags) (alg z bags)
            ∙ three_alike (λ x. Fits x j.left_kinds) (λ y. Fits y i.left_kinds)
            (λ z. Fits z i.right_kinds)
            (λ x y z. meets n d y z && meets k c x (y ++ z))
            (λ x y z. meets inner truth x y && meets outer cond (x ++ y) z)
            (λ x y z fx fy fz. regrouped_back k n c d e j.left_kinds i.left_kinds i.right_kinds
            x y z fx fy fz first second wa wb (width_is ss a j.left_kinds j.left)
            (width_is ss b i.left_kinds i.left) h)
            (alg a bags) (alg b bags) (alg z bags)
            (answer_fits ss bags fit a j.left_kinds j.left)
            (answer_fits ss bags fit b i.left_kinds i.left)
            (answer_fits ss bags fit z i.right_kinds i.right)
            ∙ sym (joined_then_joined (meets outer cond) (meets inner truth) (alg a bags)
            (alg b bags) (alg z bags))
            ∙ sym (ap (λ (xs : List Row). joined_by (meets outer cond) xs (alg z bags))
            (joined-by inner truth (alg a bags) (alg b bags)))
            ∙ sym (joined-by outer cond (joined inner truth (alg a bags) (alg b bags))
            (alg z bags))));
      }
