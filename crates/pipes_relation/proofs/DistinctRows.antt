-- The rows of a list, each once, as rows are added at its end.
use Rattle.std.proofs.Common.{◌≡◌, Bool, true, false, not, ◌||◌, cond, List, [], ◌∷◌, ◌++◌}
use Rattle.std.proofs.Common.{append-nil, map, length, take, get_or, ℕ, ◌+◌, ◌<◌, refl, sym, ap}
use Rattle.std.proofs.Common.{◌∙◌}
use Rattle.std.proofs.lemmas.List.{take_more, map-append}
use Rattle.std.specs.List.{filter, list_any}
use Rattle.std.proofs.lemmas.Bool.Decides.{same_from_decides, Decides-like, Decides-at}
use Rattle.indexmap.specs.IndexSet.{insert_key}
use Rattle.pipes_tuple.specs.Equal.{tuple_eq}
use Rattle.pipes_tuple.proofs.Equality.{tuple_eq-Decides}
use Rattle.pipes_expr.specs.ExprValue.{Row}
use Rattle.pipes_relation.specs.Relations.{distinct}

pub filter-push : {X : Type 0} (p : X → Bool) (xs : List X) (y : X)
    → filter p (xs ++ y ∷ []) ≡ filter p xs ++ cond (p y) (y ∷ []) []
filter-push p [] y = refl
filter-push {X} p (x ∷ xs) y = pushed (p x) (filter-push p xs y) where
  pushed : (b : Bool) → filter p (xs ++ y ∷ []) ≡ filter p xs ++ cond (p y) (y ∷ []) []
      → cond b (x ∷ filter p (xs ++ y ∷ [])) (filter p (xs ++ y ∷ [])) ≡ cond b (x ∷ filter p xs)
      (filter p xs) ++ cond (p y) (y ∷ []) []
  pushed true h = ap (λ (zs : List X). x ∷ zs) h
  pushed false h = h

-- some row is y
abbrev pub has : Row → List Row → Bool
has y rows = list_any (λ z. tuple_eq z y) rows

-- all rows but those that are x
abbrev pub others : Row → List Row → List Row
others x rows = filter (λ z. not (tuple_eq z x)) rows

kept_step : (x y z : Row) (rows : List Row) (b : Bool) → b ≡ tuple_eq z x → tuple_eq x y ≡ false
    → has y (others x rows) ≡ has y rows
    → has y (cond (not b) (z ∷ others x rows) (others x rows)) ≡ (tuple_eq z y || has y rows)
kept_step x y z rows true e n h =
    let same = (tuple_eq-Decides z x).0 (sym e) in
    h ∙ sym (ap (λ (w : Row). tuple_eq w y || has y rows) same ∙ ap (λ b. b || has y rows) n)
kept_step x y z rows false e n h = ap (λ b. tuple_eq z y || b) h

pub has_kept : (x y : Row) → tuple_eq x y ≡ false → (rows : List Row)
    → has y (others x rows) ≡ has y rows
has_kept x y n [] = refl
has_kept x y n (z ∷ rows) = kept_step x y z rows (tuple_eq z x) refl n (has_kept x y n rows)

pub eq_back : (x y : Row) (b : Bool) → b ≡ tuple_eq x y → tuple_eq y x ≡ b
eq_back x y b e =
    same_from_decides (tuple_eq y x) b (tuple_eq-Decides y x)
    (Decides-like b sym sym (Decides-at b (tuple_eq x y) e (tuple_eq-Decides x y)))

-- one row more, after a first one
head_step : (x y : Row) (rows : List Row) (b c : Bool) → b ≡ tuple_eq x y → c ≡ has y rows
    → x ∷ others x (cond c rows (rows ++ y ∷ [])) ≡ cond (b || has y (others x rows))
    (x ∷ others x rows) (x ∷ (others x rows ++ y ∷ []))
head_step x y rows true true e f = refl
head_step x y rows false true e f = rw (has_kept x y (sym e) rows, ← f)
head_step x y rows true false e f =
    ap (λ (zs : List Row). x ∷ zs) (filter-push (λ z. not (tuple_eq z x)) rows y
    ∙ ap (λ b. others x rows ++ cond (not b) (y ∷ []) []) (eq_back x y true e)
    ∙ append-nil (others x rows))
head_step x y rows false false e f =
    ap (λ (zs : List Row). x ∷ zs) (filter-push (λ z. not (tuple_eq z x)) rows y
    ∙ ap (λ b. others x rows ++ cond (not b) (y ∷ []) []) (eq_back x y false e))
    ∙ rw (has_kept x y (sym e) rows, ← f)

pub distinct-push : (xs : List Row) (y : Row) → distinct (xs ++ y ∷ []) ≡ cond (has y (distinct xs))
    (distinct xs) (distinct xs ++ y ∷ [])
distinct-push [] y = refl
distinct-push (x ∷ xs) y =
    ap (λ (rows : List Row). x ∷ others x rows) (distinct-push xs y)
    ∙ head_step x y (distinct xs) (tuple_eq x y) (has y (distinct xs)) refl refl

-- a row that isn't there yet, and one that is
pub distinct_new : (ys : List Row) (y : Row) (out out' : List Row) → out ≡ distinct ys
    → has y out ≡ false → out' ≡ out ++ y ∷ [] → out' ≡ distinct (ys ++ y ∷ [])
distinct_new ys y out out' e n h = h ∙ sym (distinct-push ys y ∙ rw (← e, n))

pub distinct_old : (ys : List Row) (y : Row) (out : List Row) → out ≡ distinct ys → has y out ≡ true
    → out ≡ distinct (ys ++ y ∷ [])
distinct_old ys y out e n = sym (distinct-push ys y ∙ rw (← e, n))

-- a set's test of a row is this one
pub tests_alike : (y : Row) (rows : List Row) → list_any (tuple_eq y) rows ≡ has y rows
tests_alike y [] = refl
tests_alike y (z ∷ rows) = ap (λ b. b || list_any (tuple_eq y) rows)
    (eq_back z y (tuple_eq z y) refl) ∙ ap (λ b. tuple_eq z y || b) (tests_alike y rows)

-- a set of the rows so far takes the next
pub distinct_insert : (ys : List Row) (y : Row) (keys keys' : List Row) → keys ≡ distinct ys
    → keys' ≡ insert_key tuple_eq keys y → keys' ≡ distinct (ys ++ y ∷ [])
distinct_insert ys y keys keys' e h =
    h ∙ ap (λ b. cond b keys (keys ++ y ∷ [])) (tests_alike y keys)
    ∙ ap (λ (ks : List Row). cond (has y ks) ks (ks ++ y ∷ [])) e ∙ sym (distinct-push ys y)

module _ (f : Row → Row) (rows : List Row) (i : ℕ) (row : Row) (h : i < length rows)
    (e : row ≡ get_or rows i row) where
  more : map f (take (i + 1) rows) ≡ map f (take i rows) ++ f row ∷ []
  more = ap (map f) (take_more rows i row h ∙ ap (λ (r : Row). take i rows ++ r ∷ []) (sym e))
      ∙ map-append f (take i rows) (row ∷ [])

  -- what is made of a row more
  pub distinct_more_new : (y : Row) (out out' : List Row) → y ≡ f row
      → out ≡ distinct (map f (take i rows)) → has y out ≡ false → out' ≡ out ++ y ∷ []
      → out' ≡ distinct (map f (take (i + 1) rows))
  distinct_more_new y out out' g k n p =
      distinct_new (map f (take i rows)) y out out' k n p ∙ ap
      (λ (z : Row). distinct (map f (take i rows) ++ z ∷ [])) g ∙ ap distinct (sym more)

  pub distinct_more_old : (y : Row) (out : List Row) → y ≡ f row
      → out ≡ distinct (map f (take i rows)) → has y out ≡ true
      → out ≡ distinct (map f (take (i + 1) rows))
  distinct_more_old y out g k n =
      distinct_old (map f (take i rows)) y out k n
      ∙ ap (λ (z : Row). distinct (map f (take i rows) ++ z ∷ [])) g ∙ ap distinct (sym more)
