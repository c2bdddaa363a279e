-- What a join over sources that has a schema says of its sides.
use Rattle.std.proofs.Common.{◌≡◌, ℕ, zero, suc, ◌+◌, ◌≤◌, ◌<◌, Bool, true, false, ◌&&◌, List, []}
use Rattle.std.proofs.Common.{◌∷◌}
use Rattle.std.proofs.Common.{◌++◌, length, nat_le, refl, sym, ap, ◌∙◌, arith, Option, Some, None}
use Rattle.std.specs.List.{slice_get}
use Rattle.std.proofs.lemmas.Bool.{leb-true}
use Rattle.std.proofs.lemmas.List.Elements.{All-nil, All-cons}
use Rattle.std.proofs.lemmas.Bool.{and_parts}
use Rattle.pipes_tuple.specs.declared.value.Kind.{Kind}
use Rattle.pipes_tuple.specs.Columns.{HasColumns}
use Rattle.pipes_tuple.specs.Equal.{kind_eq}
use Rattle.pipes_relation.specs.declared.lists.Pair.{Pair}
use Rattle.pipes_expr.specs.declared.expr.Expr.{Expr}
use Rattle.pipes_plan.specs.declared.plan.Plan.TheVariants.{Source, Join}
use Rattle.pipes_plan.specs.PlanKinds.{IsTyped, join_kinds, plan_kinds, pairs_alike, is_alike}
use Rattle.pipes_plan.specs.PlanKinds.{is_flag, is_width}
use Rattle.pipes_expr.specs.ExprKind.{expr_kind}
use Rattle.pipes_plan.proofs.PlanEquations.{kinds-Source, kinds-Join}
use Rattle.pipes_plan.proofs.PlanTyped.{both_are, only_if_is}
use Rattle.pipes_pair.specs.Sides.{SidesFit}
use Rattle.pipes_relation.specs.Tables.{left_columns, right_columns}

some_same : {a b : List Kind} → Some a ≡ Some b → a ≡ b
some_same h = cc

alike_at : (o q : Option Kind) (b : Bool) → (is_alike o q && b) ≡ true
    → (j : Kind) × (k : Kind) × (o ≡ Some j) × (q ≡ Some k) × (b ≡ true)
alike_at (Some j) (Some k) b h = (j, k, refl, refl, (and_parts (kind_eq j k) b h).1)
alike_at (Some j) None b h = cc
alike_at None q b h = cc

there : {X : Type 0} (xs : List X) (i : ℕ) (x : X) → slice_get xs i ≡ Some x → i < length xs
there [] i x h = cc
there (y ∷ ys) zero x h = omega arith
there (y ∷ ys) (suc i) x h = let k = there ys i x h in omega arith

-- the columns of the pairs are there
columns_there : (k : List Pair) (s t : List Kind) → pairs_alike s t k ≡ true
    → HasColumns (left_columns k) s × HasColumns (right_columns k) t
columns_there [] s t h =
    (All-nil (λ (c : ℕ). c < length s), All-nil (λ (c : ℕ). c < length t))
columns_there (p ∷ ps) s t h =
    let w = alike_at (slice_get s p.left) (slice_get t p.right) (pairs_alike s t ps) h in
    let rest = columns_there ps s t w.4 in (
      All-cons (λ (c : ℕ). c < length s) p.left (left_columns ps) (there s p.left w.0 w.2) rest.0,
      All-cons (λ (c : ℕ). c < length t) p.right (right_columns ps) (there t p.right w.1 w.3)
          rest.1,
    )

pub sides_fit : (k : List Pair) (c : Expr) (s t : List Kind)
    → IsTyped (Join k c (Source 0) (Source 1)) (s ∷ t ∷ []) → SidesFit k s t
sides_fit k c s t typed =
    let ss : List (List Kind) = s ∷ t ∷ [] in
    let w = both_are (join_kinds k c) (plan_kinds (Source 0) ss) (plan_kinds (Source 1) ss)
    typed.schema (sym (kinds-Join k c (Source 0) (Source 1) ss) ∙ typed.is) in
    let a : s ≡ w.0 = some_same (sym (kinds-Source 0 ss) ∙ w.2) in
    let b : t ≡ w.1 = some_same (sym (kinds-Source 1 ss) ∙ w.3) in
    let here : join_kinds k c s t ≡ Some typed.schema =
    ap (λ (x : List Kind). join_kinds k c x t) a
    ∙ ap (λ (x : List Kind). join_kinds k c w.0 x) b ∙ w.4 in
    let typed_all = (only_if_is (pairs_alike s t k && is_flag (expr_kind c (s ++ t))
    && is_width (length (s ++ t))) (s ++ t) typed.schema here).0 in
    let typed_both = (and_parts (pairs_alike s t k && is_flag (expr_kind c (s ++ t)))
    (is_width (length (s ++ t))) typed_all).0 in
    let alike = (and_parts (pairs_alike s t k) (is_flag (expr_kind c (s ++ t))) typed_both).0 in
    let wide = (and_parts (pairs_alike s t k && is_flag (expr_kind c (s ++ t)))
    (is_width (length (s ++ t))) typed_all).1 in
    let width = (and_parts (nat_le 1 (length (s ++ t))) (nat_le (length (s ++ t)) 32) wide).1 in
    let columns = columns_there k s t alike in
    record { width = leb-true (length (s ++ t)) 32 width; left = columns.0; right = columns.1 }
