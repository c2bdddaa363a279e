-- What an area stands for as elements come and end.
use Rattle.std.proofs.Common.{◌≡◌, ℕ, suc, ◌+◌, ◌-◌, ◌≤◌, Bool, true, false, cond, nat_le, nat_lt}
use Rattle.std.proofs.Common.{List, [], ◌∷◌, ◌++◌, length, count_by, refl, sym, ◌∙◌, ap, subst}
use Rattle.std.proofs.Common.{arith}
use Rattle.std.specs.List.{All, filter}
use Rattle.std.proofs.lemmas.Bool.{le-ltb}
use Rattle.std.proofs.lemmas.Bool.Decides.{nat_tests}
use Rattle.std.proofs.lemmas.List.Elements.{filter-append, All-head, All-tail}
use Rattle.std.proofs.lemmas.List.Sums.{sum_by-cons}
use Rattle.pipes_tuple.specs.declared.value.Value.{Value}
use Rattle.pipes_time.specs.Interval.{closed, IsInterval}
use Rattle.pipes_tuple.proofs.Perm.{Perm, none, keep, swap, then, Perm-right, Perm-filter}
use Rattle.pipes_tuple.proofs.Perm.{count_by-Perm}
use Rattle.pipes_stream.specs.declared.Elem.{Elem}
use Rattle.pipes_stream.specs.Lawful.{open_count}
use Rattle.pipes_sweep.specs.Numbers.{Numbered}
use Rattle.std.specs.Map.{values_of}
use Rattle.pipes_tuple.proofs.Perm.{length-Perm}
use Rattle.pipes_sweep.specs.Areas.{KeptByKey, AreaHolds, has_key, elems_with_key, until}
use Rattle.pipes_sweep.specs.Areas.{ended_count}

-- one element more
pub holds_pushed : (columns : List ℕ) (elems list : List Elem) (e : Elem)
    → AreaHolds (record { columns = columns; elems = elems }) list
    → AreaHolds (record { columns = columns; elems = elems ++ e ∷ [] }) (list ++ e ∷ [])
holds_pushed columns elems list e h =
    record {
      all = Perm-right (e ∷ []) h.all;
      in_order = λ key.
          filter-append (has_key columns key) elems (e ∷ [])
          ∙ ap (λ (es : List Elem). es ++ elems_with_key columns key (e ∷ [])) (h.in_order key)
          ∙ sym (filter-append (has_key columns key) list (e ∷ []));
    }

module _ {X : Type 0} (p q : X → Bool) where
  swapped : (b c : Bool) (x : X) (xs : List X) → b ≡ p x → c ≡ q x
      → filter p (filter q xs) ≡ filter q (filter p xs)
      → filter p (cond c (x ∷ filter q xs) (filter q xs))
      ≡ filter q (cond b (x ∷ filter p xs) (filter p xs))
  swapped true true x xs hp hq h =
      rw (sym hp, sym hq) (ap (λ (ys : List X). x ∷ ys) h)
  swapped true false x xs hp hq h = rw (sym hq) h
  swapped false true x xs hp hq h = rw (sym hp) h
  swapped false false x xs hp hq h = h

  -- two tests, either one first
  pub filter-filter : (xs : List X) → filter p (filter q xs) ≡ filter q (filter p xs)
  filter-filter [] = refl
  filter-filter (x ∷ xs) = swapped (p x) (q x) x xs refl refl (filter-filter xs)

-- the elements that end later stay
pub holds_until : (columns : List ℕ) (elems list : List Elem) (t : ℕ)
    → AreaHolds (record { columns = columns; elems = elems }) list
    → AreaHolds (record { columns = columns; elems = until t elems }) (until t list)
holds_until columns elems list t h =
    record {
      all = Perm-filter (λ (e : Elem). nat_lt t e.span.end) h.all;
      in_order = λ key.
          filter-filter (has_key columns key) (λ (e : Elem). nat_lt t e.span.end) elems
          ∙ ap (until t) (h.in_order key)
          ∙ sym (filter-filter (has_key columns key) (λ (e : Elem). nat_lt t e.span.end) list);
    }

tests : (s t : ℕ) → nat_le s t ≡ cond (nat_lt t s) false true
tests s t = grind (arith)

counted : (b c : Bool) (e : Elem) (es : List Elem) (n m : ℕ) → c ≡ cond b false true
    → length es + n ≡ m → length (cond b (e ∷ es) es) + (cond c 1 0 + n) ≡ suc m
counted true c e es n m h k = rw h (omega (arith, k))
counted false c e es n m h k = rw h (omega (arith, k))

-- those that stay and those that end
pub until-count : (t : ℕ) (es : List Elem) → length (until t es) + ended_count t es ≡ length es
until-count t [] = refl
until-count t (e ∷ es) =
    ap (λ (n : ℕ). length (until t (e ∷ es)) + n)
    (sum_by-cons (λ (d : Elem). cond (nat_le d.span.end t) 1 0) e es)
    ∙ counted (nat_lt t e.span.end) (nat_le e.span.end t) e (until t es) (ended_count t es)
    (length es) (tests e.span.end t) (until-count t es)

pub ended-Perm : (t : ℕ) {xs ys : List Elem} → Perm xs ys → ended_count t xs ≡ ended_count t ys
ended-Perm t p = count_by-Perm (λ (e : Elem). nat_le e.span.end t) p

open-pick : (c : Bool) (e : Elem) (es : List Elem) (d n : ℕ) → cond c 1 0 ≤ d → length es ≤ n
    → length (cond c (e ∷ es) es) ≤ d + n
open-pick true e es d n h k = omega (arith, h, k)
open-pick false e es d n h k = omega (arith, h, k)

later-test : (h b n : ℕ) → h ≤ b → cond (nat_lt b n) 1 0 ≤ cond (nat_lt h n) 1 0
later-test h b n k = grind (arith, nat_tests)

-- those that end after an instant are no more than those that end after an earlier one
pub until-open : (h b : ℕ) (es : List Elem) → h ≤ b → length (until b es) ≤ open_count h es
until-open h b [] k = omega arith
until-open h b (e ∷ es) k =
    subst (λ (n : ℕ). length (until b (e ∷ es)) ≤ n)
    (sym (sum_by-cons (λ (d : Elem). cond (nat_lt h d.span.end) 1 0) e es))
    (open-pick (nat_lt b e.span.end) e (until b es) (cond (nat_lt h e.span.end) 1 0)
    (open_count h es) (later-test h b e.span.end k) (until-open h b es k))

-- none ends after all instants
pub until-closed : (es : List Elem) → All (λ e. IsInterval e.span.start e.span.end) es
    → until closed es ≡ []
until-closed [] h = refl
until-closed (e ∷ es) h =
    let i = All-head (λ (d : Elem). IsInterval d.span.start d.span.end) e es h in
    let most : e.span.end ≤ 1000000000000000 = i.1 in
    rw (le-ltb closed e.span.end (omega arith))
    (until-closed es (All-tail (λ (d : Elem). IsInterval d.span.start d.span.end) e es h))

-- the same, of the states before and after a call
abbrev pub kept_by : List ℕ → List Elem → KeptByKey
kept_by columns elems = record { columns = columns; elems = elems }

pub holds_inserted : (old : KeptByKey) (columns : List ℕ) (elems more list : List Elem) (e : Elem)
    → kept_by columns elems ≡ old → more ≡ elems ++ e ∷ [] → AreaHolds old list
    → AreaHolds (kept_by columns more) (list ++ e ∷ [])
holds_inserted old columns elems more list e was is h =
    subst (λ (es : List Elem). AreaHolds (kept_by columns es) (list ++ e ∷ [])) (sym is)
    (holds_pushed columns elems list e
    (subst (λ (a : KeptByKey). AreaHolds a list) (sym was) h))

pub holds_purged : (old : KeptByKey) (columns : List ℕ) (elems rest list : List Elem) (t : ℕ)
    → kept_by columns elems ≡ old → rest ≡ until t elems → AreaHolds old list
    → AreaHolds (kept_by columns rest) (until t list)
holds_purged old columns elems rest list t was is h =
    subst (λ (es : List Elem). AreaHolds (kept_by columns es) (until t list)) (sym is)
    (holds_until columns elems list t (subst (λ (a : KeptByKey). AreaHolds a list) (sym was) h))

pub purged_count : (old : KeptByKey) (columns : List ℕ) (elems rest list : List Elem)
    (t before after : ℕ) → kept_by columns elems ≡ old → rest ≡ until t elems
    → before ≡ length elems → after ≡ length rest → AreaHolds old list
    → before - after ≡ ended_count t list
purged_count old columns elems rest list t before after was is long short h =
    let here : AreaHolds (kept_by columns elems) list =
    subst (λ (a : KeptByKey). AreaHolds a list) (sym was) h in
    let all : length (until t elems) + ended_count t elems ≡ length elems = until-count t elems in
    let same : ended_count t elems ≡ ended_count t list = ended-Perm t here.all in
    let left : after ≡ length (until t elems) = short ∙ ap length is in
    omega (arith, all, same, left, long)

pub holds_nothing : (columns : List ℕ) (store : Numbered) → store ≡ []
    → AreaHolds (kept_by columns (values_of store)) []
holds_nothing columns store is = rw is (record { all = none; in_order = λ key. refl })

-- nothing that ends at the instant or before it is left
pub holds_rest : (old now : KeptByKey) (list : List Elem) (t : ℕ) → now.columns ≡ old.columns
    → now.elems ≡ until t old.elems → AreaHolds old list → AreaHolds now (until t list)
holds_rest old now list t same is h =
    subst (λ (ks : List ℕ). AreaHolds (kept_by ks now.elems) (until t list)) (sym same)
    (holds_purged old old.columns old.elems now.elems list t refl is h)

pub rest_count : (old now : KeptByKey) (list : List Elem) (t before after : ℕ)
    → now.elems ≡ until t old.elems → before ≡ length old.elems → after ≡ length now.elems
    → AreaHolds old list → before - after ≡ ended_count t list
rest_count old now list t before after is long short h =
    purged_count old old.columns old.elems now.elems list t before after refl is long short h
