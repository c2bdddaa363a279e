-- The lists of an operator's ports.
use Rattle.std.proofs.Common.{◌≡◌, ℕ, zero, suc, ◌≤◌, ◌<◌, ◌+◌, Bool, true, false, cond, nat_le}
use Rattle.std.proofs.Common.{nat_lt, min, List, [], ◌∷◌, ◌++◌, length, count_by, refl, sym, ◌∙◌}
use Rattle.std.proofs.Common.{subst, ap, arith}
use Rattle.std.specs.List.{All, AllByRecursion, Contains}
use Rattle.std.proofs.lemmas.Bool.{lt-ltb}
use Rattle.std.proofs.lemmas.List.Sums.{sum_by-cons}
use Rattle.std.proofs.lemmas.List.Elements.{All-nil, All-cons, All-head, All-tail, All-append}
use Rattle.std.proofs.lemmas.List.Elements.{All-weaker, All-from_recursion, recursion_from_All}
use Rattle.std.proofs.lemmas.List.Elements.{All-contains_itself, Contains-append_left}
use Rattle.std.proofs.lemmas.List.Elements.{Contains-append_right}
use Rattle.pipes_tuple.proofs.Perm.{Perm, none, keep, swap, then}
use Rattle.pipes_stream.specs.declared.Elem.{Elem}
use Rattle.pipes_stream.specs.Lawful.{floor, IsCovered, open_count}

pub floor-below : (h : ℕ) (es : List Elem) → floor h es ≤ h
floor-below h [] = omega arith
floor-below h (e ∷ es) = omega (arith, floor-below h es)

-- each element covers itself
pub covered-itself : (es : List Elem) → All (IsCovered es) es
covered-itself es = All-weaker (Contains es) (IsCovered es)
    (λ e c. (e, c, omega arith, omega arith)) es (All-contains_itself es)

module _ {X : Type 0} (P : X → Type 0) where
  pub recursion-Perm : {xs ys : List X} → Perm xs ys → AllByRecursion P xs → AllByRecursion P ys
  recursion-Perm none h = h
  recursion-Perm (keep x p) h = (h.0, recursion-Perm p h.1)
  recursion-Perm (swap x y xs) h = (h.1.0, (h.0, h.1.1))
  recursion-Perm (then p q) h = recursion-Perm q (recursion-Perm p h)

  pub All-Perm : {xs ys : List X} → Perm xs ys → All P xs → All P ys
  All-Perm {xs} {ys} p h = All-from_recursion P ys (recursion-Perm p (recursion_from_All P xs h))

  halves : (xs ys : List X) → AllByRecursion P (xs ++ ys)
      → AllByRecursion P xs × AllByRecursion P ys
  halves [] ys h = (tt, h)
  halves (x ∷ xs) ys h = let a = halves xs ys h.1 in ((h.0, a.0), a.1)

  -- of both parts of a list
  pub All-parts : (xs ys : List X) → All P (xs ++ ys) → All P xs × All P ys
  All-parts xs ys h = let a = halves xs ys (recursion_from_All P (xs ++ ys) h) in
      (All-from_recursion P xs a.0, All-from_recursion P ys a.1)

-- elements that all end after h
pub open_count-all : (h : ℕ) (es : List Elem) → All (λ e. h < e.span.end) es
    → open_count h es ≡ length es
open_count-all h [] a = refl
open_count-all h (e ∷ es) a =
    let one : ◌≡◌ {A = ℕ} (cond (nat_lt h e.span.end) 1 0) 1 = rw
    (lt-ltb h e.span.end (All-head (λ (e : Elem). h < e.span.end) e es a)) refl in
    let more = open_count-all h es (All-tail (λ (e : Elem). h < e.span.end) e es a) in
    omega (arith, sum_by-cons (λ (e : Elem). cond (nat_lt h e.span.end) 1 0) e es, one, more)

pub open_count-append : (h : ℕ) (xs ys : List Elem)
    → open_count h (xs ++ ys) ≡ open_count h xs + open_count h ys
open_count-append h [] ys = omega arith
open_count-append h (e ∷ xs) ys =
    omega (
      arith,
      sum_by-cons (λ (e : Elem). cond (nat_lt h e.span.end) 1 0) e
          (xs ++ ys),
      sum_by-cons
          (λ (e : Elem). cond (nat_lt h e.span.end) 1 0) e xs,
      open_count-append h xs ys,
    )
