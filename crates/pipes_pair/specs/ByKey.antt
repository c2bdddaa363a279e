-- Elements whose keys differ make nothing, and of those whose keys are equal the condition alone
-- says whether they meet.
use Rattle.std.proofs.Common.{◌≡◌, ℕ, Bool, true, false, cond, ◌&&◌, List, [], ◌∷◌, ◌++◌, map}
use Rattle.std.proofs.Common.{refl, sym, ◌∙◌, ap, length, ◌<◌, Option, Some}
use Rattle.std.specs.List.{All, filter, flat_map, slice_get, cons_option}
use Rattle.std.specs.Option.{unwrap_or}
use Rattle.std.proofs.lemmas.List.Elements.{All-head, All-tail}
use Rattle.pipes_tuple.specs.declared.value.Value.{Value}
use Rattle.pipes_tuple.specs.Columns.{at_columns, HasColumns}
use Rattle.pipes_tuple.specs.Equal.{value_eq, tuple_eq}
use Rattle.pipes_tuple.specs.OrderLaws.{tuple_eq-equivalence}
use Rattle.pipes_tuple.proofs.Columns.{slice_get-there}
use Rattle.pipes_stream.specs.declared.Elem.{Elem}
use Rattle.pipes_relation.specs.declared.lists.Pair.{Pair}
use Rattle.pipes_expr.specs.declared.expr.Expr.{Expr}
use Rattle.pipes_relation.specs.Relations.{pairs_equal}
use Rattle.pipes_expr.specs.ExprValue.{Row, column, no_value, passes}
use Rattle.pipes_sweep.specs.Areas.{has_key, elems_with_key, is_overlap}
use Rattle.pipes_pair.specs.Meeting.{both_of, joined_elem, joined_from, made_by}
use Rattle.pipes_pair.specs.Sides.{HasKey, made_by_key}
use Rattle.pipes_relation.specs.Tables.{left_columns, right_columns}

-- What two elements make, by a test of equal keys and by what is known then.
pub record IsByKey (make probe : Elem → Elem → List Elem) (own_columns other_columns : List ℕ)
    : Type 0 where
  pub same : (a b : Elem) → HasKey own_columns a → HasKey other_columns b
      → has_key other_columns (at_columns own_columns a.tuple) b ≡ true → probe a b ≡ make a b
  pub apart : (a b : Elem) → HasKey own_columns a → HasKey other_columns b
      → has_key other_columns (at_columns own_columns a.tuple) b ≡ false → make a b ≡ []

module _ (make probe : Elem → Elem → List Elem) (own_columns other_columns : List ℕ)
    (by : IsByKey make probe own_columns other_columns) where
  picked : (t : Bool) (a b : Elem) (es ds : List Elem) → HasKey own_columns a
      → HasKey other_columns b → has_key other_columns (at_columns own_columns a.tuple) b ≡ t
      → flat_map (probe a) es ≡ flat_map (make a) ds
      → flat_map (probe a) (cond t (b ∷ es) es) ≡ make a b ++ flat_map (make a) ds
  picked true a b es ds ha hb is h =
      ap (λ (xs : List Elem). xs ++ flat_map (probe a) es) (by.same a b ha hb is)
      ∙ ap (λ (xs : List Elem). make a b ++ xs) h
  picked false a b es ds ha hb is h =
      h ∙ ap (λ (xs : List Elem). xs ++ flat_map (make a) ds) (sym (by.apart a b ha hb is))

  -- of one element and each of the other side's
  row-by_key : (a : Elem) (rs : List Elem) → HasKey own_columns a → All (HasKey other_columns) rs
      → flat_map (probe a) (elems_with_key other_columns (at_columns own_columns a.tuple) rs)
      ≡ flat_map (make a) rs
  row-by_key a [] ha hs = refl
  row-by_key a (b ∷ rs) ha hs =
      picked (has_key other_columns (at_columns own_columns a.tuple) b) a b
      (elems_with_key other_columns (at_columns own_columns a.tuple) rs) rs ha
      (All-head (HasKey other_columns) b rs hs) refl
      (row-by_key a rs ha (All-tail (HasKey other_columns) b rs hs))

  -- what elements make with those of their keys is what they make with all
  pub made-by_key : (ls rs : List Elem) → All (HasKey own_columns) ls
      → All (HasKey other_columns) rs
      → made_by_key probe own_columns other_columns ls rs ≡ made_by make ls rs
  made-by_key [] rs hl hr = refl
  made-by_key (a ∷ ls) rs hl hr =
      ap (λ (xs : List Elem). xs ++ made_by_key probe own_columns other_columns ls rs)
      (row-by_key a rs (All-head (HasKey own_columns) a ls hl) hr)
      ∙ ap (λ (xs : List Elem). flat_map (make a) rs ++ xs)
      (made-by_key ls rs (All-tail (HasKey own_columns) a ls hl) hr)

one_more : (o q : Option Value) (x y : Value) (xs ys : List Value) (b : Bool) → o ≡ Some x
    → q ≡ Some y → tuple_eq xs ys ≡ b
    → tuple_eq (cons_option o xs) (cons_option q ys)
    ≡ (value_eq (unwrap_or o no_value) (unwrap_or q no_value) && b)
one_more o q x y xs ys b ho hq h = rw (ho, hq) (ap (λ (c : Bool). value_eq x y && c) h)

-- the keys are equal where the columns of all pairs are
keys-equal : (pairs : List Pair) (l r : Row) → HasColumns (left_columns pairs) l
    → HasColumns (right_columns pairs) r
    → tuple_eq (at_columns (left_columns pairs) l) (at_columns (right_columns pairs)
    r) ≡ pairs_equal pairs l r
keys-equal [] l r hl hr = refl
keys-equal (p ∷ ps) l r hl hr =
    let x = slice_get-there l p.left
    (All-head (λ column. column < length l) p.left (left_columns ps) hl) in
    let y = slice_get-there r p.right
    (All-head (λ column. column < length r) p.right (right_columns ps) hr) in
    one_more (slice_get l p.left) (slice_get r p.right) x.0 y.0 (at_columns (left_columns ps) l)
    (at_columns (right_columns ps) r) (pairs_equal ps l r) x.1 y.1
    (keys-equal ps l r (All-tail (λ column. column < length l) p.left (left_columns ps) hl)
    (All-tail (λ column. column < length r) p.right (right_columns ps) hr))

known : (o e p : Bool) (b : Elem) → e ≡ true
    → cond (o && (true && p)) (b ∷ []) [] ≡ cond (o && (e && p)) (b ∷ []) []
known o e p b h = rw h refl

unmet : (o e p : Bool) (b : Elem) → e ≡ false → cond (o && (e && p)) (b ∷ []) [] ≡ []
unmet true e p b h = rw h refl
unmet false e p b h = refl

equal_at : (pairs : List Pair) (l r : Elem) (t : Bool) → HasKey (left_columns pairs) l
    → HasKey (right_columns pairs) r → has_key (left_columns pairs)
    (at_columns (right_columns pairs) r.tuple) l ≡ t
    → pairs_equal pairs l.tuple r.tuple ≡ t
equal_at pairs l r t hl hr h = sym (keys-equal pairs l.tuple r.tuple hl hr) ∙ h

-- from the right side
pub joined-by_key_right : (pairs : List Pair) (c : Expr)
    → IsByKey (λ a b. joined_from pairs c true b a) (λ a b. joined_from [] c true b a)
    (right_columns pairs) (left_columns pairs)
joined-by_key_right pairs c =
    record {
      same = λ a b ha hb h.
          known (is_overlap b.span a.span) (pairs_equal pairs b.tuple a.tuple)
          (passes c (b.tuple ++ a.tuple)) (both_of b a) (equal_at pairs b a true hb ha h);
      apart = λ a b ha hb h.
          unmet (is_overlap b.span a.span) (pairs_equal pairs b.tuple a.tuple)
          (passes c (b.tuple ++ a.tuple)) (both_of b a) (equal_at pairs b a false hb ha h);
    }

equal_turned : (pairs : List Pair) (l r : Elem) (t : Bool) → HasKey (left_columns pairs) l
    → HasKey (right_columns pairs) r → has_key (right_columns pairs)
    (at_columns (left_columns pairs) l.tuple) r ≡ t
    → pairs_equal pairs l.tuple r.tuple ≡ t
equal_turned pairs l r t hl hr h =
    equal_at pairs l r t hl hr
    (tuple_eq-equivalence.symm (at_columns (left_columns pairs) l.tuple)
    (at_columns (right_columns pairs) r.tuple) ∙ h)

-- from the left side
pub joined-by_key_left : (pairs : List Pair) (c : Expr)
    → IsByKey (joined_from pairs c true) (joined_from [] c true) (left_columns pairs)
    (right_columns pairs)
joined-by_key_left pairs c =
    record {
      same = λ a b ha hb h.
          known (is_overlap a.span b.span) (pairs_equal pairs a.tuple b.tuple)
          (passes c (a.tuple ++ b.tuple)) (both_of a b) (equal_turned pairs a b true ha hb h);
      apart = λ a b ha hb h.
          unmet (is_overlap a.span b.span) (pairs_equal pairs a.tuple b.tuple)
          (passes c (a.tuple ++ b.tuple)) (both_of a b) (equal_turned pairs a b false ha hb h);
    }
