-- Elements that wait, in the order of their starts: where those that are due end, and what moves
-- out.
use Rattle.std.proofs.Common.{◌≡◌, ℕ, zero, suc, ◌+◌, ◌≤◌, ◌<◌, Bool, true, false, cond, List, []}
use Rattle.std.proofs.Common.{◌∷◌, ◌++◌, length, take, drop, get_or, nat_le, nat_lt, refl, sym, ◌∙◌}
use Rattle.std.proofs.Common.{ap, subst, arith, append_assoc}
use Rattle.std.proofs.lemmas.List.{take_more}
use Rattle.std.specs.List.{All, Contains, filter, insert}
use Rattle.std.specs.List.Sorted.{IsPartitionPoint}
use Rattle.pipes_time.proofs.Times.{up_to-take, past-drop, place-from_point, past-above}
use Rattle.pipes_time.proofs.Times.{up_to-below, rise-placed, rise_up_to, rise_past}
use Rattle.pipes_tuple.proofs.Perm.{Perm, none, keep, swap, then, Perm-prefix}
use Rattle.pipes_stream.specs.declared.Elem.{Elem}
use Rattle.pipes_sweep.specs.Waiting.{HasFirst, StartsRise, due, later, placed}

abbrev elem_start : Elem → ℕ
elem_start e = e.span.start

-- before this place the elements are due, and from it on they are later
pub record Splits (t : ℕ) (waiting : List Elem) (place : ℕ) : Type 0 where
  pub before : take place waiting ≡ due t waiting
  pub rest : drop place waiting ≡ later t waiting

pub splits : (t : ℕ) (es : List Elem) (place : ℕ) → place ≤ length es
    → IsPartitionPoint (λ (e : Elem). nat_le e.span.start t ≡ true)
    (λ (e : Elem). nat_le e.span.start t ≡ false) es place → Splits t es place
splits t es place within point =
    let is = place-from_point elem_start t es place within point in
    record {
      before = up_to-take elem_start t es place is;
      rest =
          past-drop elem_start t es place is;
    }

-- nothing is lost, and nothing comes in
filter-both : (t : ℕ) (b c : Bool) (e : Elem) (es xs ys : List Elem) → c ≡ (cond b false true)
    → Perm (xs ++ ys) es → Perm (cond b (e ∷ xs) xs ++ cond c (e ∷ ys) ys) (e ∷ es)
filter-both t true c e es xs ys h p = rw h (keep e p)
filter-both t false c e es xs ys h p = rw h (then (Perm-prefix e xs ys) (keep e p))

tests : (s t : ℕ) → nat_lt t s ≡ cond (nat_le s t) false true
tests s t = grind (arith)

pub due-later : (t : ℕ) (es : List Elem) → Perm (due t es ++ later t es) es
due-later t [] = none
due-later t (e ∷ es) = filter-both t (nat_le e.span.start t) (nat_lt t e.span.start) e es (due t es)
    (later t es) (tests e.span.start t) (due-later t es)

pub placed-Perm : (e : Elem) (es : List Elem) → Perm (placed e es) (e ∷ es)
placed-Perm e es = then (Perm-prefix e (due e.span.start es) (later e.span.start es))
    (keep e (due-later e.span.start es))

-- those that stay start after the instant, those that go do not
pub later-above : (t : ℕ) (es : List Elem) → All (λ e. t < e.span.start) (later t es)
later-above t es = past-above elem_start t es

pub due-below : (t : ℕ) (es : List Elem) → All (λ e. e.span.start ≤ t) (due t es)
due-below t es = up_to-below elem_start t es

-- an element put after those that are due at its start
pub rise_placed : (e : Elem) (es : List Elem) (place : ℕ) → StartsRise es → place ≤ length es
    → take place es ≡ due e.span.start es → drop place es ≡ later e.span.start es
    → StartsRise (insert es place e)
rise_placed e es place rise within before rest =
    rise-placed elem_start e es place rise within before rest

pub rise_due : (t : ℕ) (es : List Elem) (place : ℕ) → StartsRise es → take place es ≡ due t es
    → StartsRise (due t es)
rise_due t es place rise is = rise_up_to elem_start t es place rise is

pub rise_later : (t : ℕ) (es : List Elem) (place : ℕ) → StartsRise es → drop place es ≡ later t es
    → StartsRise (later t es)
rise_later t es place rise is = rise_past elem_start t es place rise is

-- the first of them
pub first-is : (e : Elem) (es : List Elem) → StartsRise es → 0 < length es → e ≡ get_or es 0 e
    → HasFirst e.span.start es
first-is e [] rise there is = absurd (omega arith)
first-is e (x ∷ es) rise there is =
    subst (λ (d : Elem). HasFirst d.span.start (x ∷ es)) (sym is)
    (record { least = λ k d l. rise 0 k d (omega arith) l; one = (x, (0, there, refl), refl) })

-- one more item goes from the prefix of a list
module _ {X : Type 0} where
  get-drop : (xs : List X) (n : ℕ) (d : X) → get_or (drop n xs) 0 d ≡ get_or xs n d
  get-drop [] zero d = refl
  get-drop [] (suc n) d = refl
  get-drop (x ∷ xs) zero d = refl
  get-drop (x ∷ xs) (suc n) d = get-drop xs n d

  pub moved_more : (before xs out : List X) (n : ℕ) (x : X) → out ≡ before ++ take n xs
      → n < length xs → x ≡ get_or (drop n xs) 0 x → out ++ x ∷ [] ≡ before ++ take (n + 1) xs
  moved_more before xs out n x is there first =
      let same : x ≡ get_or xs n x = first ∙ get-drop xs n x in
      ap (λ (ys : List X). ys ++ x ∷ []) is ∙ append_assoc before (take n xs) (x ∷ [])
      ∙ ap (λ (y : X). before ++ (take n xs ++ y ∷ [])) same
      ∙ ap (λ (ys : List X). before ++ ys) (sym (take_more xs n x there))

  rest-suc : (xs : List X) (n : ℕ) → drop 1 (drop n xs) ≡ drop (suc n) xs
  rest-suc [] zero = refl
  rest-suc [] (suc n) = refl
  rest-suc (x ∷ xs) zero = refl
  rest-suc (x ∷ xs) (suc n) = rest-suc xs n

  pub rest_more : (xs : List X) (n : ℕ) → drop 1 (drop n xs) ≡ drop (n + 1) xs
  rest_more xs n = rest-suc xs n ∙ ap (λ (k : ℕ). drop k xs)
      (let e : suc n ≡ n + 1 = omega arith in e)
