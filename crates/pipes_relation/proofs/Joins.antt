-- Joins by a table of the right rows.
use Rattle.std.proofs.Common.{◌≡◌, ℕ, ◌+◌, ◌<◌, Bool, true, false, ◌&&◌, cond, List, [], ◌∷◌, ◌++◌}
use Rattle.std.proofs.Common.{append-nil, ◌≤◌, length, map, take, get_or, subst, refl, sym, ap, ◌∙◌}
use Rattle.std.specs.List.{flat_map, All}
use Rattle.std.proofs.lemmas.List.Elements.{All-filter}
use Rattle.std.proofs.lemmas.List.{take_more, take_all}
use Rattle.std.proofs.lemmas.Grind.{flat_map-append}
use Rattle.pipes_tuple.specs.Equal.{tuple_eq, value_eq}
use Rattle.pipes_relation.specs.declared.lists.Pair.{Pair}
use Rattle.pipes_expr.specs.declared.expr.Expr.{Expr}
use Rattle.pipes_expr.specs.ExprValue.{Row, column, passes}
use Rattle.pipes_relation.specs.Relations.{pairs_equal, joined_row, joined}
use Rattle.pipes_relation.specs.Tables.{with_value, values_in, left_columns, right_columns}
use Rattle.pipes_relation.proofs.DistinctRows.{eq_back}

keys_equal : (pairs : List Pair) (l r : Row)
    → pairs_equal pairs l r
    ≡ tuple_eq (values_in (left_columns pairs) l) (values_in (right_columns pairs) r)
keys_equal [] l r = refl
keys_equal (p ∷ ps) l r =
    ap (λ b. value_eq (column l p.left) (column r p.right) && b) (keys_equal ps l r)

module _ (pairs : List Pair) (condition : Expr) (l : Row) where
  abbrev has_pairs : List Row → List Row
  has_pairs rs = with_value (values_in (right_columns pairs)) rs (values_in (left_columns pairs) l)

  group_step : (r : Row) (rs : List Row) (b : Bool)
      → b ≡ tuple_eq (values_in (right_columns pairs) r) (values_in (left_columns pairs) l)
      → flat_map (joined_row [] condition l) (has_pairs rs) ≡ flat_map
      (joined_row pairs condition l) rs
      → flat_map (joined_row [] condition l) (cond b (r ∷ has_pairs rs) (has_pairs rs))
      ≡ joined_row pairs condition l r ++ flat_map (joined_row pairs condition l) rs
  group_step r rs true e h =
      let same : pairs_equal pairs l r ≡ true = keys_equal pairs l r
      ∙ eq_back (values_in (right_columns pairs) r) (values_in (left_columns pairs) l) true e in
      ap (λ (ls : List Row). joined_row [] condition l r ++ ls) h
      ∙ ap (λ b. cond (b && passes condition (l ++ r)) ((l ++ r) ∷ []) []
      ++ flat_map (joined_row pairs condition l) rs) (sym same)
  group_step r rs false e h =
      let other : pairs_equal pairs l r ≡ false = keys_equal pairs l r
      ∙ eq_back (values_in (right_columns pairs) r) (values_in (left_columns pairs) l) false e in
      h ∙ ap (λ b. cond (b && passes condition (l ++ r)) ((l ++ r) ∷ []) []
      ++ flat_map (joined_row pairs condition l) rs) (sym other)

  -- to join a left row with the rows that have its values is to join it with all
  pub joined_group : (rs : List Row)
      → flat_map (joined_row [] condition l) (has_pairs rs) ≡ flat_map
      (joined_row pairs condition l) rs
  joined_group [] = refl
  joined_group (r ∷ rs) =
      group_step r rs (tuple_eq (values_in (right_columns pairs) r)
      (values_in (left_columns pairs) l))
      refl (joined_group rs)

-- a left row more
pub joined_more : (F : Row → List Row) (ls : List Row) (i : ℕ) (l : Row) (out out' : List Row)
    → i < length ls → l ≡ get_or ls i l → out ≡ flat_map F (take i ls) → out' ≡ out ++ F l
    → out' ≡ flat_map F (take (i + 1) ls)
joined_more F ls i l out out' h e o p =
    p ∙ ap (λ (rows : List Row). rows ++ F l) o
    ∙ ap (λ (rows : List Row). flat_map F (take i ls) ++ rows) (sym (append-nil (F l)))
    ∙ sym (flat_map-append F (take i ls) (l ∷ []))
    ∙ ap (λ (z : Row). flat_map F (take i ls ++ z ∷ [])) e ∙ ap (flat_map F)
    (sym (take_more ls i l h))

pub group_room : (P : Row → Type 0) (f : Row → Row) (rs : List Row) (key : Row) (group : List Row)
    → group ≡ with_value f rs key → All P rs → All P group
group_room P f rs key group e a = subst (All P) (sym e) (All-filter (λ row. tuple_eq (f row) key) P
    rs a)

-- what a left row makes
pub row_joined : (pairs : List Pair) (condition : Expr) (l : Row) (rs : List Row)
    (lefts rights : List ℕ)
    (key : Row) (group out out' : List Row) → lefts ≡ left_columns pairs
    → rights ≡ right_columns pairs
    → key ≡ values_in lefts l → group ≡ with_value (values_in rights) rs key
    → out' ≡ out ++ flat_map (joined_row [] condition l) group
    → out' ≡ out ++ flat_map (joined_row pairs condition l) rs
row_joined pairs condition l rs lefts rights key group out out' le re ke g p =
    p ∙ ap (λ (rows : List Row). out ++ flat_map (joined_row [] condition l) rows)
    (g ∙ ap (with_value (values_in rights) rs) (ke ∙ ap (λ (cs : List ℕ). values_in cs l) le)
    ∙ ap (λ (cs : List ℕ). with_value (values_in cs) rs (values_in (left_columns pairs) l)) re)
    ∙ ap (λ (rows : List Row). out ++ rows) (joined_group pairs condition l rs)

pub joined_all : (pairs : List Pair) (condition : Expr) (ls rs : List Row) (i : ℕ) (out : List Row)
    → length ls ≤ i → out ≡ flat_map (λ x. flat_map (joined_row pairs condition x) rs) (take i ls)
    → out ≡ joined pairs condition ls rs
unfolding joined
joined_all pairs condition ls rs i out h e = e
    ∙ ap (flat_map (λ x. flat_map (joined_row pairs condition x) rs)) (take_all i ls h)
