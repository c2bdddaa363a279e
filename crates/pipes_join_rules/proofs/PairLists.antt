-- Lists of pairs and of columns, as the code makes them, and plans in which they are too long.
use Rattle.std.proofs.Common.{◌≡◌, ℕ, ◌+◌, ◌<◌, ◌≤◌, Bool, true, false, max, List, [], ◌∷◌, ◌++◌}
use Rattle.std.proofs.Common.{length, map, refl, sym}
use Rattle.std.proofs.Common.{ap, subst, arith, rules, length-append, Option, Some}
use Rattle.std.proofs.Common.{◌∙◌, append_assoc}
use Rattle.std.specs.List.{range_with_len}
use Rattle.std.proofs.lemmas.List.FromFn.{map-range_with_len_more, length-map-range_with_len}
use Rattle.pipes_expr.specs.declared.expr.Expr.{Expr}
use Rattle.pipes_expr.specs.declared.expr.Expr.TheVariants.{Col}
use Rattle.pipes_relation.specs.declared.lists.Pair.{Pair}
use Rattle.pipes_plan.specs.declared.plan.Plan.{Plan, the_lemmas}
use Rattle.pipes_plan.specs.declared.plan.Plan.TheVariants.{Map, Join}
use Rattle.pipes_plan.specs.Sizes.{longest_list}
use Rattle.pipes_plan.proofs.SameLists as lists
use Rattle.pipes_rewrite.specs.Equalities.{same_exprs}
use Rattle.pipes_rewrite.specs.JoinForms.{columns_from, restored, swapped}
use Rattle.pipes_rewrite.specs.Making.{IsTooLong}

pub length_swapped : (pairs : List Pair) → length (swapped pairs) ≡ length pairs
length_swapped [] = refl
length_swapped (p ∷ pairs) = omega (arith, length_swapped pairs)

pub one_column_more : (list : List Expr) (start count : ℕ)
    → (list ++ columns_from start count) ++ (Col (start + count) ∷ [])
    ≡ list ++ columns_from start (count + 1)
one_column_more list start count =
    append_assoc list (columns_from start count) (Col (start + count) ∷ [])
    ∙ ap (λ (l : List Expr). list ++ l)
    (sym (map-range_with_len_more Col start count (start + count) refl))

-- ---- lists that are too long for a plan

pub longest-Map : (es : List Expr) (a : Plan)
    → longest_list (Map es a) ≡ max (length es) (longest_list a)
longest-Map es a = search (rules, the_lemmas)

pub longest-Join : (k : List Pair) (c : Expr) (a b : Plan)
    → longest_list (Join k c a b) ≡ max (length k) (max (longest_list a) (longest_list b))
longest-Join k c a b = search (rules, the_lemmas)

length_restored : (left right : ℕ) → length (restored left right) ≡ left + right
length_restored left right =
    omega (
      arith,
      length-append (columns_from right left) (columns_from 0 right),
      length-map-range_with_len Col right left,
      length-map-range_with_len Col 0 right,
    )

pub long_columns : (left right : ℕ) (a : Plan) → 32 < left + right
    → 32 < longest_list (Map (restored left right) a)
long_columns left right a h =
    omega (arith, h, longest-Map (restored left right) a, length_restored left right)

pub long_map : (es : List Expr) (a : Plan) → 32 < length es → 32 < longest_list (Map es a)
long_map es a h = omega (arith, h, longest-Map es a)

pub long_pairs : (k : List Pair) (c : Expr) (a b : Plan) → 32 < length k
    → 32 < longest_list (Join k c a b)
long_pairs k c a b h = omega (arith, h, longest-Join k c a b)

pub long_left : (k : List Pair) (c : Expr) (a b : Plan) → 32 < longest_list a
    → 32 < longest_list (Join k c a b)
long_left k c a b h = omega (arith, h, longest-Join k c a b)

pub long_right : (k : List Pair) (c : Expr) (a b : Plan) → 32 < longest_list b
    → 32 < longest_list (Join k c a b)
long_right k c a b h = omega (arith, h, longest-Join k c a b)

-- the form that is made is too long
pub form_too_long : (form : Option Plan) (plan : Plan) → Some plan ≡ form
    → 32 < longest_list plan → IsTooLong form
form_too_long form plan e h = subst (λ (o : Option Plan). IsTooLong o) e h

-- a list that fits a plan isn't that of more columns
pub not_restored : (es : List Expr) (left right : ℕ) → length es ≤ 32 → 32 < left + right
    → false ≡ same_exprs es (restored left right)
not_restored es left right short h = sym (go (same_exprs es (restored left right)) refl)
  where
    go : (b : Bool) → b ≡ same_exprs es (restored left right) → b ≡ false
    go true e =
        let same = (lists.same_exprs es (restored left right)).0 (sym e) in
        absurd (omega (arith, short, h, ap length same, length_restored left right))
    go false e = refl
