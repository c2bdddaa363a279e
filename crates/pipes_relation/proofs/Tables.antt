-- Rows by key, as rows are added at the end.
use Rattle.std.proofs.Common.{◌≡◌, ℕ, zero, suc, ◌+◌, ◌<◌, Bool, true, false, not, ◌||◌, cond, List}
use Rattle.std.proofs.Common.{[], ◌∷◌, ◌++◌, append-nil, map, length, get_or, slice_set, position}
use Rattle.std.proofs.Common.{Some, None, refl, sym, ap, ◌∙◌, subst, arith}
use Rattle.std.proofs.lemmas.List.{map-append, length-map}
use Rattle.std.proofs.lemmas.Map.Keys.{IsDistinct-head, IsDistinct-tail}
use Rattle.std.specs.List.{filter, list_any, position_or_len, AllByRecursion, IsDistinct}
use Rattle.std.specs.declared.vec.Vec.{Vec}
use Rattle.std.specs.declared.alloc.Global.{Global}
use Rattle.indexmap.specs.IndexSet.{insert_key}
use Rattle.pipes_tuple.specs.Equal.{tuple_eq}
use Rattle.pipes_tuple.proofs.Equality.{tuple_eq-Decides}
use Rattle.pipes_expr.specs.ExprValue.{Row}
use Rattle.pipes_relation.specs.Relations.{distinct, bag_lists}
use Rattle.pipes_relation.specs.Tables.{put_at, with_value, IsTable}
use Rattle.pipes_relation.proofs.DistinctRows.{has, others, filter-push, has_kept, eq_back}
use Rattle.pipes_relation.proofs.DistinctRows.{tests_alike, distinct_insert}

pub put_is : (gs : List (Vec Row Global)) (i : ℕ) (g v : Vec Row Global) (row : Row) → i < length gs
    → g ≡ get_or gs i g → v.items ≡ g.items ++ row ∷ [] → bag_lists (slice_set gs i v) ≡ put_at
    (bag_lists gs) i row
put_is [] i g v row h e p = absurd (omega arith)
put_is (x ∷ gs) zero g v row h e p = ap (λ (l : List Row). l ∷ bag_lists gs)
    (p ∙ ap (λ (w : Vec Row Global). w.items ++ row ∷ []) e)
put_is (x ∷ gs) (suc i) g v row h e p = ap (λ (ls : List (List Row)). x.items ∷ ls)
    (put_is gs i g v row (omega arith) e p)

-- what a key's list becomes with a row of key k more
module _ (F : Row → List Row) (k row : Row) where
  abbrev more : Row → List Row
  more z = F z ++ cond (tuple_eq k z) (row ∷ []) []

  none_more : (ks : List Row) → AllByRecursion (λ y. tuple_eq k y ≡ false) ks
      → map more ks ≡ map F ks
  none_more [] a = refl
  none_more (x ∷ ks) a =
      ap (λ (l : List Row). l ∷ map more ks) (ap (λ b. F x ++ cond b (row ∷ []) []) a.0
      ∙ append-nil (F x))
      ∙ ap (λ (ls : List (List Row)). F x ∷ ls) (none_more ks a.1)

  put_step : (x : Row) (ks : List Row) (b : Bool) → b ≡ tuple_eq k x
      → AllByRecursion (λ y. tuple_eq x y ≡ false) ks
      → map more ks ≡ put_at (map F ks) (position_or_len (tuple_eq k) ks) row
      → (F x ++ cond b (row ∷ []) []) ∷ map more ks ≡ put_at (F x ∷ map F ks)
      (cond (not b) (1 + position_or_len (tuple_eq k) ks) 0) row
  put_step x ks true e a h =
      let same : k ≡ x = (tuple_eq-Decides k x).0 (sym e) in
      ap (λ (ls : List (List Row)). (F x ++ row ∷ []) ∷ ls) (none_more ks
      (subst (λ (z : Row). AllByRecursion (λ y. tuple_eq z y ≡ false) ks) (sym same) a))
  put_step x ks false e a h =
      let n = position_or_len (tuple_eq k) ks in
      let next : suc n ≡ 1 + n = omega arith in
      ap (λ (l : List Row). l ∷ map more ks) (append-nil (F x))
      ∙ ap (λ (ls : List (List Row)). F x ∷ ls) h ∙ ap (λ i. put_at (F x ∷ map F ks) i row) next

  put_key : (ks : List Row) → IsDistinct tuple_eq ks → map more ks ≡ put_at (map F ks)
      (position_or_len (tuple_eq k) ks) row
  put_key [] d = refl
  put_key (x ∷ ks) d = put_step x ks (tuple_eq k x) refl (IsDistinct-head tuple_eq x ks d)
      (put_key ks (IsDistinct-tail tuple_eq x ks d))

-- a key that is pushed where none is equal has the place after them
place_step : (k x : Row) (ks : List Row) (b : Bool) → position_or_len (tuple_eq k)
    (ks ++ k ∷ []) ≡ position_or_len (tuple_eq k) ks → cond (not b)
    (1 + position_or_len (tuple_eq k) (ks ++ k ∷ [])) 0 ≡ cond (not b)
    (1 + position_or_len (tuple_eq k) ks) 0
place_step k x ks b h = ap (λ n. cond (not b) (1 + n) 0) h

place_pushed : (k : Row) (ks : List Row) → position_or_len (tuple_eq k)
    (ks ++ k ∷ []) ≡ position_or_len (tuple_eq k) ks
place_pushed k [] = ap (λ b. cond (not b) (1 + 0) 0) ((tuple_eq-Decides k k).1 refl)
place_pushed k (x ∷ ks) = place_step k x ks (tuple_eq k x) (place_pushed k ks)

-- among all rows and among those kept once are the same
has_step : (x y : Row) (rows : List Row) (b : Bool) → b ≡ tuple_eq x y
    → has y (distinct rows) ≡ has y rows → (b || has y (others x (distinct rows))) ≡
    (b || has y rows)
has_step x y rows true e h = refl
has_step x y rows false e h = has_kept x y (sym e) (distinct rows) ∙ h

has_distinct : (y : Row) (rows : List Row) → has y (distinct rows) ≡ has y rows
has_distinct y [] = refl
has_distinct y (x ∷ rows) = has_step x y rows (tuple_eq x y) refl (has_distinct y rows)

-- no row has a key that is no key of theirs
empty_step : (f : Row → Row) (row : Row) (rows : List Row) (k : Row) (b : Bool)
    → (b || has k (map (f) rows)) ≡ false → (has k (map (f) rows) ≡ false
    → with_value f rows k ≡ []) → cond b (row ∷ with_value f rows k) (with_value f rows k) ≡ []
empty_step f row rows k true e h = cc
empty_step f row rows k false e h = h e

no_rows : (f : Row → Row) (rows : List Row) (k : Row) → has k (map (f) rows) ≡ false
    → with_value f rows k ≡ []
no_rows f [] k e = refl
no_rows f (row ∷ rows) k e = empty_step f row rows k (tuple_eq (f row) k) e (no_rows f rows k)

pub table_none : (f : Row → Row) (rows keys : List Row) (groups : List (Vec Row Global)) (k : Row)
    → IsTable f rows keys groups → list_any (tuple_eq k) keys ≡ false → with_value f rows k ≡ []
table_none f rows keys groups k t absent =
    no_rows f rows k (sym (has_distinct k (map f rows)) ∙ ap (has k) (sym t.keys_are)
    ∙ sym (tests_alike k keys) ∙ absent)

-- the key at its place
found_step : (k x d : Row) (ks : List Row) (b : Bool) → b ≡ tuple_eq k x
    → (b || list_any (tuple_eq k) ks) ≡ true → (list_any (tuple_eq k) ks ≡ true
    → k ≡ get_or ks (position_or_len (tuple_eq k) ks) d) → k ≡ get_or (x ∷ ks)
    (cond (not b) (1 + position_or_len (tuple_eq k) ks) 0) d
found_step k x d ks true e t h = (tuple_eq-Decides k x).0 (sym e)
found_step k x d ks false e t h =
    let n = position_or_len (tuple_eq k) ks in
    let next : suc n ≡ 1 + n = omega arith in
    h t ∙ ap (λ i. get_or (x ∷ ks) i d) next

place_found : (k d : Row) (ks : List Row) → list_any (tuple_eq k) ks ≡ true
    → k ≡ get_or ks (position_or_len (tuple_eq k) ks) d
place_found k d [] t = cc
place_found k d (x ∷ ks) t = found_step k x d ks (tuple_eq k x) refl t (place_found k d ks)

some_is : (b : Bool) (i j : ℕ) → Some i ≡ cond b (Some j) None → i ≡ j
some_is true i j e = cc
some_is false i j e = cc

pub key_at : (k : Row) (ks : List Row) (i : ℕ) → list_any (tuple_eq k) ks ≡ true
    → Some i ≡ position (tuple_eq k) ks → k ≡ get_or ks i k
key_at k ks i t e = place_found k k ks t ∙ ap (λ n. get_or ks n k)
    (sym (some_is _ i (position_or_len (tuple_eq k) ks) e))

module _ (f : Row → Row) (rows keys : List Row) (groups groups' : List (Vec Row Global))
    (k row : Row) (keys' : List Row) (i : ℕ) (t : IsTable f rows keys groups) (ke : k ≡ f row)
    (kp : keys' ≡ insert_key tuple_eq keys k) (d : IsDistinct tuple_eq keys')
    (ie : i ≡ position_or_len (tuple_eq k) keys) where
  keys_next : keys' ≡ distinct (map (f) (rows ++ row ∷ []))
  keys_next =
      distinct_insert (map (f) rows) k keys keys' t.keys_are kp
      ∙ ap (λ (z : Row). distinct (map (f) rows ++ z ∷ [])) ke
      ∙ ap distinct (sym (map-append (f) rows (row ∷ [])))

  next_lists : map (with_value f (rows ++ row ∷ [])) keys' ≡ put_at (map (with_value f rows) keys')
      (position_or_len (tuple_eq k) keys') row
  next_lists =
      (λ j. map (λ z. (filter-push (λ r. tuple_eq (f r) z) rows row
      ∙ ap (λ (c : Row). with_value f rows z ++ cond (tuple_eq c z) (row ∷ []) []) (sym ke)) j)
      keys')
      ∙ put_key (with_value f rows) k row keys' d

  pub table_old : list_any (tuple_eq k) keys ≡ true → bag_lists groups' ≡ put_at (bag_lists groups)
      i row → IsTable f (rows ++ row ∷ []) keys' groups'
  table_old there g =
      let same : keys' ≡ keys = kp ∙ ap (λ b. cond b keys (keys ++ k ∷ [])) there in
      record {
        keys_are = keys_next;
        groups_are =
            g ∙ ap (λ (ls : List (List Row)). put_at ls i row) t.groups_are
            ∙ ap (λ n. put_at (map (with_value f rows) keys) n row) ie
            ∙ ap (λ (ks : List Row). put_at (map (with_value f rows) ks)
            (position_or_len (tuple_eq k) ks) row) (sym same)
            ∙ sym next_lists;
      }

  pub table_new : (g : Vec Row Global) (mid : List (Vec Row Global))
      → list_any (tuple_eq k) keys ≡ false → g.items ≡ [] → mid ≡ groups ++ g ∷ []
      → bag_lists groups' ≡ put_at (bag_lists mid) i row → IsTable f (rows ++ row ∷ []) keys'
      groups'
  table_new g mid absent e m p =
      let pushed : keys' ≡ keys ++ k ∷ [] = kp ∙ ap (λ b. cond b keys (keys ++ k ∷ [])) absent in
      let not_there : has k (map (f) rows) ≡ false = sym (has_distinct k (map (f) rows))
      ∙ ap (has k) (sym t.keys_are) ∙ sym (tests_alike k keys) ∙ absent in
      let lists : bag_lists mid ≡ map (with_value f rows) keys' =
      ap bag_lists m ∙ map-append (λ (bag : Vec Row Global). bag.items) groups (g ∷ [])
      ∙ ap (λ (ls : List (List Row)). ls ++ g.items ∷ []) t.groups_are
      ∙ ap (λ (l : List Row). map (with_value f rows) keys ++ l ∷ [])
      (e ∙ sym (no_rows f rows k not_there))
      ∙ sym (map-append (with_value f rows) keys (k ∷ []))
      ∙ ap (map (with_value f rows)) (sym pushed) in
      let place : i ≡ position_or_len (tuple_eq k) keys' = ie ∙ sym (place_pushed k keys)
      ∙ ap (position_or_len (tuple_eq k)) (sym pushed) in
      record {
        keys_are = keys_next;
        groups_are = p ∙ ap (λ (ls : List (List Row)). put_at ls i row) lists
            ∙ ap (λ n. put_at (map (with_value f rows) keys') n row) place ∙ sym next_lists;
      }

pub flipped : (b a : Bool) → a ≡ not b → b ≡ not a
flipped true a e = sym (ap not e)
flipped false a e = sym (ap not e)

abbrev first_of : List (List Row) → List Row
first_of [] = []
first_of (x ∷ xs) = x

abbrev rest_of : List (List Row) → List (List Row)
rest_of [] = []
rest_of (x ∷ xs) = xs

-- the rows of the key at a place
list_at : (f : Row → Row) (rows keys : List Row) (groups : List (Vec Row Global)) (i : ℕ)
    (key : Row) (group : Vec Row Global) → bag_lists groups ≡ map (with_value f rows) keys
    → i < length keys → key ≡ get_or keys i key → group ≡ get_or groups i group
    → group.items ≡ with_value f rows key
list_at f rows [] groups i key group e h k g = absurd (omega arith)
list_at f rows (x ∷ keys) [] i key group e h k g = cc
list_at f rows (x ∷ keys) (y ∷ groups) zero key group e h k g =
    ap (λ (v : Vec Row Global). v.items) g ∙ ap first_of e ∙ ap (with_value f rows) (sym k)
list_at f rows (x ∷ keys) (y ∷ groups) (suc i) key group e h k g =
    list_at f rows keys groups i key group (ap rest_of e) (omega arith) k g

pub group_at : (f : Row → Row) (rows keys : List Row) (groups : List (Vec Row Global)) (i : ℕ)
    (key : Row) (group : Vec Row Global) → IsTable f rows keys groups → i < length keys
    → key ≡ get_or keys i key → group ≡ get_or groups i group → group.items ≡ with_value f rows key
group_at f rows keys groups i key group t = list_at f rows keys groups i key group t.groups_are

pub as_many : (f : Row → Row) (rows keys : List Row) (groups : List (Vec Row Global))
    → IsTable f rows keys groups → length groups ≡ length keys
as_many f rows keys groups t = sym (length-map groups (λ (bag : Vec Row Global). bag.items))
    ∙ ap length t.groups_are ∙ length-map keys (with_value f rows)

-- what a look-up of a key that is there gives
pub lookup_rows : (f : Row → Row) (rows keys : List Row) (groups : List (Vec Row Global))
    (key : Row)
    (i : ℕ) (group : Vec Row Global) → IsTable f rows keys groups
    → true ≡ list_any (tuple_eq key) keys → Some i ≡ position (tuple_eq key) keys → i < length keys
    → group ≡ get_or groups i group → group.items ≡ with_value f rows key
lookup_rows f rows keys groups key i group t there at h g =
    group_at f rows keys groups i key group t h (key_at key keys i (sym there) at) g
