-- The two sides of each rule that exchanges, regroups or thins the sides of joins mean the same.
use Rattle.std.proofs.Common.{◌≡◌, ℕ, zero, suc, ◌+◌, ◌-◌, ◌*◌, ◌<◌, ◌≤◌, Bool, true, false, ◌&&◌}
use Rattle.std.proofs.Common.{cond, List, [], ◌∷◌, ◌++◌, length, map, take, drop, get_or, refl, sym}
use Rattle.std.proofs.Common.{ap, ◌∙◌, subst, rules, arith, Option, Some, None, length-append}
use Rattle.std.proofs.Common.{append_assoc}
use Rattle.std.specs.Prelude.{nat_lt, nat_le}
use Rattle.std.specs.List.{All, filter, flat_map, range_with_len}
use Rattle.std.proofs.lemmas.Bool.Decides.{nat_tests, same_from_decides, Decides-like}
use Rattle.std.proofs.lemmas.Option.{unwrap_or-slice_get}
use Rattle.std.proofs.lemmas.List.{map-append, get_or_append_left}
use Rattle.std.proofs.lemmas.List.FromFn.{fill_by_all}
use Rattle.std.proofs.Math.Seq.{get_or-append_seam}
use Rattle.std.proofs.lemmas.List.Elements.{All-head, All-tail}
use Rattle.std.proofs.lemmas.Bool.{and_parts}
use Rattle.pipes_tuple.specs.declared.value.Value.{Value}
use Rattle.pipes_tuple.specs.declared.value.Kind.{Kind}
use Rattle.pipes_tuple.specs.declared.value.Kind.TheVariants as kind
use Rattle.pipes_tuple.specs.Kinds.{kind_of, Fits}
use Rattle.pipes_tuple.specs.Equal.{value_eq}
use Rattle.pipes_tuple.specs.Bag.{SameBag}
use Rattle.pipes_tuple.proofs.Equality.{value_eq-Decides}
use Rattle.pipes_tuple.proofs.Perm.{Perm, then, Perm-equal, Perm-loops}
use Rattle.pipes_tuple.proofs.Bags.{SameBag-Perm}
use Rattle.pipes_expr.specs.declared.expr.Expr.{Expr}
use Rattle.pipes_expr.specs.declared.expr.Expr.TheVariants.{Col}
use Rattle.pipes_expr.specs.ExprValue.{Row, column, is_true, no_value, passes, value_of}
use Rattle.pipes_expr.specs.ExprKind.{expr_kind}
use Rattle.pipes_expr.proofs.ConcatenatedRows.{column_left, column_right}
use Rattle.pipes_expr.proofs.ExprEquations.{value_of-Col}
use Rattle.pipes_relation.specs.declared.lists.Pair.{Pair}
use Rattle.pipes_plan.specs.declared.plan.Plan.{Plan}
use Rattle.pipes_plan.specs.declared.plan.Plan.TheVariants.{Map, Join}
use Rattle.pipes_plan.specs.Algebra.{alg}
use Rattle.pipes_relation.specs.Relations.{values_of, pairs_equal, meets, joined, joined_row}
use Rattle.pipes_plan.specs.PlanKinds.{plan_kinds, IsTyped, join_kinds, is_flag, is_width}
use Rattle.pipes_plan.specs.PlanKinds.{pairs_alike}
use Rattle.pipes_plan.proofs.PlanEquations.{alg-Map, alg-Join}
use Rattle.pipes_plan.proofs.PlanTyped.{join_is, map_is, only_if_is, flag_is}
use Rattle.pipes_plan.proofs.AnswerFits.{answer_fits}
use Rattle.pipes_rewrite.specs.Changes.{sum_32, exchanged, exchange_sides, raise_by, expr_changed}
use Rattle.pipes_rewrite.specs.Changes.{truth}
use Rattle.pipes_rewrite.specs.JoinForms.{swapped, restored}
use Rattle.pipes_rewrite.specs.SameMeaning.{SameMeaning, Alike}
use Rattle.pipes_rewrite.specs.Widths.{width}
use Rattle.pipes_rewrite.proofs.ChangedValues.{Places, changed_value}
use Rattle.pipes_rule_laws.proofs.JoinedRows.{flat_map_each, map-flat_map}
use Rattle.pipes_rule_laws.proofs.JoinSound.{fits_length, fits_both}
use Rattle.pipes_rule_laws.proofs.MadeSound.{map-map, sample, sample_fits, values_kinds}
use Rattle.pipes_rule_laws.proofs.RowWidth.{width_is, sum_within}
use Rattle.pipes_rule_laws.proofs.Same.{some_schema, same_answers, UnderJoin, join_under, map_under}
use Rattle.pipes_rule_laws.proofs.Same.{map_typed}

-- ---- exchanged columns

column_is : (row : Row) (i : ℕ) → column row i ≡ get_or row i no_value
column_is row i = unwrap_or-slice_get row i no_value

exchanged_left : (m n i : ℕ) → i < m → m + n ≤ 64 → exchanged m n i ≡ i + n
exchanged_left m n i h room = go (nat_lt i m) refl where
  go : (b : Bool) → b ≡ nat_lt i m → cond b (sum_32 i n) (i - m) ≡ i + n
  go true e = sum_within i n (omega arith)
  go false e = absurd (grind (arith, nat_tests))

exchanged_right : (m n i : ℕ) → m ≤ i → exchanged m n i ≡ i - m
exchanged_right m n i h = go (nat_lt i m) refl where
  go : (b : Bool) → b ≡ nat_lt i m → cond b (sum_32 i n) (i - m) ≡ i - m
  go true e = absurd (grind (arith, nat_tests))
  go false e = refl

some_expr : {x y : Expr} → Some x ≡ Some y → x ≡ y
some_expr h = cc

exchanged_places : (l r : Row) (m n : ℕ) (s : List Kind) → m ≡ length l → n ≡ length r
    → length s ≡ length l + length r → length l + length r ≤ 64
    → Places (exchange_sides m n) s (l ++ r) (r ++ l)
exchanged_places l r m n s em en es room i h x g = ap (λ z. value_of z (r ++ l))
    (sym (some_expr g)) ∙ value_of-Col (exchanged m n i) (r ++ l) ∙ go (nat_lt i m) refl where
      go : (b : Bool) → b ≡ nat_lt i m → column (r ++ l) (exchanged m n i) ≡ column (l ++ r) i
      go true e =
          let near : i < m = grind (arith, nat_tests) in
          let past : (i + n) - length r ≡ i = omega (arith, en) in
          ap (column (r ++ l)) (exchanged_left m n i near (omega (arith, em, en, room)))
          ∙ column_right r l (i + n) (omega (arith, en)) ∙ ap (column l) past
          ∙ sym (column_left l r i (omega (arith, em, near)))
      go false e =
          let far : m ≤ i = grind (arith, nat_tests) in
          ap (column (r ++ l)) (exchanged_right m n i far)
          ∙ column_left r l (i - m) (omega (arith, em, far, h, es))
          ∙ ap (λ z. column r (i - z)) em
          ∙ sym (column_right l r i (omega (arith, em, far)))

value_eq-sym : (a b : Value) → value_eq a b ≡ value_eq b a
value_eq-sym a b = same_from_decides (value_eq a b) (value_eq b a) (value_eq-Decides a b)
    (Decides-like (value_eq b a) sym sym (value_eq-Decides b a))

pairs_swapped : (k : List Pair) (l r : Row) → pairs_equal (swapped k) r l ≡ pairs_equal k l r
pairs_swapped [] l r = refl
pairs_swapped (p ∷ k) l r = rw (
  pairs_swapped k l r,
  value_eq-sym (column r p.right) (column l p.left),
)

-- ---- the columns in their order

columns_after : (xs ys : Row) → map (column (xs ++ ys)) (range_with_len (length xs) (length ys))
    ≡ ys
columns_after xs [] = refl
columns_after xs (y ∷ ys) =
    let e1 = append_assoc xs (y ∷ []) ys in
    let e2 : length (xs ++ y ∷ []) ≡ length xs + 1 = omega (arith, length-append xs (y ∷ [])) in
    let rest = subst (λ n. map (column (xs ++ y ∷ ys)) (range_with_len n (length ys)) ≡ ys) e2
    (subst (λ (zs : Row). map (column zs) (range_with_len (length (xs ++ y ∷ [])) (length ys))
    ≡ ys) e1 (columns_after (xs ++ y ∷ []) ys)) in
    let first = column_is (xs ++ y ∷ ys) (length xs) ∙ get_or-append_seam xs y ys no_value in
    rw (first, rest)

columns_first : (xs ys : Row) → map (column (xs ++ ys)) (range_with_len 0 (length xs)) ≡ xs
columns_first xs ys = sym (fill_by_all (column (xs ++ ys)) xs (length xs) no_value refl
    (λ k g. sym (get_or_append_left xs ys no_value k g) ∙ sym (column_is (xs ++ ys) k)))

values_of-Cols : (row : Row) (cols : List ℕ) → values_of (map Col cols) row ≡ map (column row) cols
values_of-Cols row cols = map-map Col (λ e. value_of e row) (column row)
    (λ i. value_of-Col i row) cols

pub restores : (l r : Row) (m n : ℕ) → length l ≡ m → length r ≡ n
    → values_of (restored m n) (r ++ l) ≡ l ++ r
restores l r m n em en = subst (λ a. values_of (restored a n) (r ++ l) ≡ l ++ r) em
    (subst (λ b. values_of (restored (length l) b) (r ++ l) ≡ l ++ r) en
    (map-append (λ e. value_of e (r ++ l)) (map Col (range_with_len (length r) (length l)))
    (map Col (range_with_len 0 (length r)))
    ∙ ap (λ (xs : Row). xs ++ values_of (map Col (range_with_len 0 (length r))) (r ++ l))
    (values_of-Cols (r ++ l) (range_with_len (length r) (length l)) ∙ columns_after r l)
    ∙ ap (λ (ys : Row). l ++ ys) (values_of-Cols (r ++ l) (range_with_len 0 (length r))
    ∙ columns_first r l)))

one_row : (b b' : Bool) (x y : Row) (f : Row → Row) → b' ≡ b → f y ≡ x
    → map f (cond b' (y ∷ []) []) ≡ cond b (x ∷ []) []
one_row true b' x y f e h = rw (e, h)
one_row false b' x y f e h = rw e

-- ---- joins with their sides exchanged

module _ (k k' : List Pair) (c c' : Expr) (P Q : Row → Type 0) (m n : ℕ)
    (left : (l : Row) → P l → length l ≡ m) (right : (r : Row) → Q r → length r ≡ n)
    (same : (l r : Row) → P l → Q r → meets k' c' r l ≡ meets k c l r) where
  pub joins_exchanged : (ls rs : List Row) → All P ls → All Q rs
      → Perm (joined k c ls rs) (map (values_of (restored m n)) (joined k' c' rs ls))
  unfolding joined
  joins_exchanged ls rs a b =
      let f = values_of (restored m n) in
      let e1 = map-flat_map f (λ r. flat_map (joined_row k' c' r) ls) rs in
      let e2 = flat_map_each Q (λ r. map f (flat_map (joined_row k' c' r) ls))
      (λ r. flat_map (λ l. joined_row k c l r) ls)
      (λ r q. map-flat_map f (joined_row k' c' r) ls
      ∙ flat_map_each P (λ l. map f (joined_row k' c' r l)) (λ l. joined_row k c l r)
      (λ l p. one_row (meets k c l r) (meets k' c' r l) (l ++ r) (r ++ l) f (same l r p q)
      (restores l r m n (left l p) (right r q))) ls a) rs b in
      then (Perm-loops (joined_row k c) ls rs) (Perm-equal (sym (e1 ∙ e2)))

-- the parts of what a typed join says
pub record JoinParts (k : List Pair) (c : Expr) (s t : List Kind) : Type 0 where
  pub pairs : pairs_alike s t k ≡ true
  pub condition : expr_kind c (s ++ t) ≡ Some kind.Flag
  pub room : length s + length t ≤ 32

pub join_parts : (k : List Pair) (c : Expr) (s t u : List Kind) → join_kinds k c s t ≡ Some u
    → JoinParts k c s t
join_parts k c s t u h =
    let w = only_if_is _ (s ++ t) u h in
    let b = and_parts (pairs_alike s t k && is_flag (expr_kind c (s ++ t)))
    (is_width (length (s ++ t))) w.0 in
    let d = and_parts (pairs_alike s t k) (is_flag (expr_kind c (s ++ t))) b.0 in
    record {
      pairs = d.0;
      condition = flag_is (expr_kind c (s ++ t)) d.1;
      room = (join_is k c s t u h).1;
    }

module _ (ss : List (List Kind)) where
  -- a join, and the join of its sides exchanged below the map that gives back their order
  exchanged_alike : (k k' : List Pair) (c c' : Expr) (a b : Plan)
      → ((s t : List Kind) → plan_kinds a ss ≡ Some s → plan_kinds b ss ≡ Some t
      → (l r : Row) → Fits l s → Fits r t → meets k' c' r l ≡ meets k c l r)
      → Alike ss (Join k c a b) (Map (restored (width ss a) (width ss b)) (Join k' c' b a))
  exchanged_alike k k' c c' a b same t u =
      let es = restored (width ss a) (width ss b) in
      let j = join_under ss k c a b t in
      let m = map_under ss es (Join k' c' b a) u in
      let v = join_under ss k' c' b a (map_typed ss es (Join k' c' b a) u) in
      let left = some_schema (sym v.right ∙ j.left) in
      let right = some_schema (sym v.left ∙ j.right) in
      let below : m.below_kinds ≡ j.right_kinds ++ j.left_kinds =
      some_schema (sym m.below ∙ v.whole_is)
      ∙ ap (λ (z : List Kind). z ++ v.right_kinds) right
      ∙ ap (λ (z : List Kind). j.right_kinds ++ z) left in
      let l = sample j.left_kinds in
      let r = sample j.right_kinds in
      let fl = sample_fits j.left_kinds in
      let fr = sample_fits j.right_kinds in
      let wide = width_is ss a j.left_kinds j.left in
      let wide' = width_is ss b j.right_kinds j.right in
      let made = values_kinds (r ++ l) m.below_kinds
      (fits_both r l j.right_kinds j.left_kinds fr fl ∙ sym below) es m.schema
      (map_is es m.below_kinds m.schema m.typed).0 in
      let back = restores l r (width ss a) (width ss b)
      (fits_length l j.left_kinds fl ∙ sym wide) (fits_length r j.right_kinds fr ∙ sym wide') in
      let schema : m.schema ≡ j.left_kinds ++ j.right_kinds = sym made
      ∙ ap (map kind_of) back ∙ fits_both l r j.left_kinds j.right_kinds fl fr in
      record {
        kinds = j.whole_is ∙ ap Some (sym schema) ∙ sym m.whole_is;
        answers = λ bags fit. same_answers (alg-Join k c a b bags)
            (alg-Map es (Join k' c' b a) bags
            ∙ ap (map (values_of es)) (alg-Join k' c' b a bags))
            (SameBag-Perm (joins_exchanged k k' c c' (λ l. Fits l j.left_kinds)
            (λ r. Fits r j.right_kinds) (width ss a) (width ss b)
            (λ l f. fits_length l j.left_kinds f ∙ sym wide)
            (λ r f. fits_length r j.right_kinds f ∙ sym wide')
            (same j.left_kinds j.right_kinds j.left j.right) (alg a bags) (alg b bags)
            (answer_fits ss bags fit a j.left_kinds j.left)
            (answer_fits ss bags fit b j.right_kinds j.right)));
      }

  -- the condition with its columns at their new places
  exchanged_condition : (c d : Expr) (a b : Plan) (s t : List Kind) → plan_kinds a ss ≡ Some s
      → plan_kinds b ss ≡ Some t → expr_kind c (s ++ t) ≡ Some kind.Flag
      → length s + length t ≤ 32
      → expr_changed (exchange_sides (width ss a) (width ss b)) c ≡ Some d
      → (l r : Row) → Fits l s → Fits r t → passes d (r ++ l) ≡ passes c (l ++ r)
  exchanged_condition c d a b s t e e' flag room h l r f g =
      let nl = fits_length l s f in
      let nr = fits_length r t g in
      ap is_true (changed_value (exchange_sides (width ss a) (width ss b)) (s ++ t) (l ++ r)
      (r ++ l)
      (exchanged_places l r (width ss a) (width ss b) (s ++ t)
      (width_is ss a s e ∙ sym nl) (width_is ss b t e' ∙ sym nr)
      (length-append s t ∙ sym (rw (nl, nr) refl))
      (omega (arith, room, nl, nr))) c d kind.Flag flag h)

  pub join_commute_alike : (k : List Pair) (c d : Expr) (a b : Plan)
      → expr_changed (exchange_sides (width ss a) (width ss b)) c ≡ Some d
      → Alike ss (Join k c a b)
      (Map (restored (width ss a) (width ss b)) (Join (swapped k) d b a))
  join_commute_alike k c d a b h t u =
      exchanged_alike k (swapped k) c d a b
      (λ s s' e e' l r f g.
      let j = join_under ss k c a b t in
      let p = join_parts k c j.left_kinds j.right_kinds _ j.typed in
      let left = some_schema (sym j.left ∙ e) in
      let right = some_schema (sym j.right ∙ e') in
      rw (
        pairs_swapped k l r,
        exchanged_condition c d a b j.left_kinds j.right_kinds j.left
            j.right p.condition p.room h l r (f ∙ sym left) (g ∙ sym right),
      ) refl) t u

  pub join_commute_back_alike : (k : List Pair) (c d : Expr) (a b : Plan)
      → expr_changed (exchange_sides (width ss b) (width ss a)) c ≡ Some d
      → Alike ss (Join (swapped k) d a b)
      (Map (restored (width ss a) (width ss b)) (Join k c b a))
  join_commute_back_alike k c d a b h t u =
      exchanged_alike (swapped k) k d c a b
      (λ s s' e e' l r f g.
      let j = join_under ss k c b a (map_typed ss (restored (width ss a) (width ss b))
      (Join k c b a) u) in
      let p = join_parts k c j.left_kinds j.right_kinds _ j.typed in
      let left = some_schema (sym j.right ∙ e) in
      let right = some_schema (sym j.left ∙ e') in
      sym (rw (
        pairs_swapped k r l,
        exchanged_condition c d b a j.left_kinds j.right_kinds j.left
            j.right p.condition p.room h r l (g ∙ sym right) (f ∙ sym left),
      ) refl)) t u
