-- How the number of copies goes on from instant to instant, by what begins and ends there.
use Rattle.std.proofs.Common.{◌≡◌, ℕ, zero, suc, ◌+◌, ◌-◌, ◌≤◌, ◌<◌, Bool, true, false, ◌&&◌, cond}
use Rattle.std.proofs.Common.{Option, None, List, [], ◌∷◌, ◌++◌, refl, sym, ◌∙◌, ap, subst, arith}
use Rattle.std.specs.List.{All}
use Rattle.std.specs.Prelude.{nat_le, nat_lt, ◌==◌}
use Rattle.std.proofs.lemmas.Bool.Decides.{nat_tests}
use Rattle.std.proofs.lemmas.List.Elements.{All-head, All-tail, All-weaker}
use Rattle.pipes_time.specs.Interval.{horizon}
use Rattle.pipes_tuple.specs.declared.value.Value.{Value}
use Rattle.pipes_tuple.specs.Equal.{tuple_eq}
use Rattle.pipes_stream.specs.declared.Elem.{Elem}
use Rattle.pipes_settled.specs.declared.settled.Change.{Change}
use Rattle.pipes_stream.specs.Snapshot.{snapshot}
use Rattle.pipes_stream.proofs.Snapshots.{snapshot-above, snapshot-append}
use Rattle.pipes_tuple.specs.Bag.{count}
use Rattle.pipes_settled.specs.Certainty.{StartFrom}
use Rattle.pipes_settled.specs.Standing.{number, starts_at, ends_at, begins_of, ends_of, IsPending}
use Rattle.pipes_output.proofs.Counting.{count_by-cons, count_by-append}
use Rattle.pipes_output.proofs.Elements.{IsElem, snapshot-cons}
use Rattle.pipes_settled.proofs.Leveling.{IsFlat}

-- what one element does from an instant to the next
one-next : (b : Bool) (s e t : ℕ) → s < e
    → cond {A = ℕ} (b && (nat_le s (t + 1) && nat_lt (t + 1) e)) 1 0 + cond (b && (e == t + 1)) 1 0
    ≡ cond (b && (nat_le s t && nat_lt t e)) 1 0 + cond (b && (s == t + 1)) 1 0
one-next true s e t h = grind (arith, nat_tests)
one-next false s e t h = refl

one-first : (b : Bool) (s e : ℕ) → s < e → cond {A = ℕ} (b && (nat_le s 0 && nat_lt 0 e)) 1 0 ≡ cond
    (b && (s == 0)) 1 0
one-first true s e h = grind (arith, nat_tests)
one-first false s e h = refl

one-last : (b : Bool) (s e t : ℕ) → e ≤ t → cond {A = ℕ} (b && (nat_le s t && nat_lt t e)) 1 0 ≡ 0
one-last true s e t h = grind (arith, nat_tests)
one-last false s e t h = refl

starts-cons : (e : Elem) (es : List Elem) (v : List Value) (t : ℕ)
    → starts_at (e ∷ es) v t ≡ cond (tuple_eq e.tuple v && (e.span.start == t)) 1 0 + starts_at es v
    t
starts-cons e es v t = count_by-cons (λ (e : Elem). tuple_eq e.tuple v && (e.span.start == t)) e es

ends-cons : (e : Elem) (es : List Elem) (v : List Value) (t : ℕ)
    → ends_at (e ∷ es) v t ≡ cond (tuple_eq e.tuple v && (e.span.end == t)) 1 0 + ends_at es v t
ends-cons e es v t = count_by-cons (λ (e : Elem). tuple_eq e.tuple v && (e.span.end == t)) e es

pub number-next : (es : List Elem) → All IsElem es → (v : List Value) (t : ℕ)
    → number es v (t + 1) + ends_at es v (t + 1) ≡ number es v t + starts_at es v (t + 1)
number-next [] all v t = refl
number-next (e ∷ es) all v t =
    let proper : e.span.start < e.span.end = (All-head IsElem e es all).0 in
    let rest = number-next es (All-tail IsElem e es all) v t in
    omega (
      arith,
      rest,
      snapshot-cons v e es (t + 1),
      snapshot-cons v e es t,
      starts-cons e es v
          (t + 1),
      ends-cons e es v (t + 1),
      one-next (tuple_eq e.tuple v) e.span.start e.span.end t
          proper,
    )

pub number-first : (es : List Elem) → All IsElem es → (v : List Value)
    → number es v 0 ≡ starts_at es v 0
number-first [] all v = refl
number-first (e ∷ es) all v =
    let proper : e.span.start < e.span.end = (All-head IsElem e es all).0 in
    let rest = number-first es (All-tail IsElem e es all) v in
    omega (
      arith,
      rest,
      snapshot-cons v e es 0,
      starts-cons e es v 0,
      one-first (tuple_eq e.tuple v)
          e.span.start e.span.end proper,
    )

pub number-last : (es : List Elem) → All IsElem es → (v : List Value) (t : ℕ) → horizon ≤ t
    → number es v t ≡ 0
number-last [] all v t h = refl
number-last (e ∷ es) all v t h =
    let most : e.span.end ≤ horizon = (All-head IsElem e es all).1 in
    let rest = number-last es (All-tail IsElem e es all) v t h in
    omega (
      arith,
      rest,
      snapshot-cons v e es t,
      one-last (tuple_eq e.tuple v) e.span.start
          e.span.end t (omega arith),
    )

number-early : (es : List Elem) (v : List Value) (t h : ℕ) → StartFrom h es → t < h
    → number es v t ≡ 0
number-early es v t h all k = ap (count v)
    (snapshot-above t es
    (All-weaker (λ (e : Elem). h ≤ e.span.start) (λ (e : Elem). t < e.span.start)
    (λ e w. omega (arith, k, w)) es all))

number-append : (xs ys : List Elem) (v : List Value) (t : ℕ)
    → number (xs ++ ys) v t ≡ number xs v t + number ys v t
number-append xs ys v t = ap (count v) (snapshot-append xs ys t)
    ∙ count_by-append (λ (row : List Value). tuple_eq row v) (snapshot xs t) (snapshot ys t)

-- elements that start at h or later change nothing before
pub number-agrees : (xs ys : List Elem) (v : List Value) (t h : ℕ) → StartFrom h ys → t < h
    → number xs v t ≡ number (xs ++ ys) v t
number-agrees xs ys v t h all k = omega (
  arith,
  number-append xs ys v t,
  number-early ys v t h all
      k,
)

-- where nothing begins or ends the number stays
pub number-flat : (es : List Elem) → All IsElem es
    → (until : List Value → ℕ) (pending : ℕ × List Value → Option Change)
    → IsPending es until pending → (v : List Value) (t : ℕ) → until v ≤ t → pending (t, v) ≡ None
    → IsFlat (number es v) t
number-flat es all until pending p v t h none =
    let b : starts_at es v t ≡ 0 = sym (p.begins t v h) ∙ ap begins_of none in
    let e : ends_at es v t ≡ 0 = sym (p.ends t v h) ∙ ap ends_of none in
    record {
      first = λ z. number-first es all v ∙ subst (λ u. starts_at es v u ≡ 0) z b;
      later = λ k.
          (let s : (t - 1) + 1 ≡ t = omega arith in
          let n = number-next es all v (t - 1) in
          let m : number es v t + ends_at es v t ≡ number es v (t - 1) + starts_at es v t = subst
          (λ u. number es v u + ends_at es v u ≡ number es v (t - 1) + starts_at es v u) s n in
          omega (arith, m, b, e));
    }

-- what is there at the next instant that is settled, from what was there before
pub number-turns : (es : List Elem) → All IsElem es → (v : List Value) (t n : ℕ) → (t ≡ 0 → n ≡ 0)
    → (1 ≤ t → number es v (t - 1) ≡ n) → number es v t + ends_at es v t ≡ n + starts_at es v t
number-turns es all v zero n first later = omega (
  arith,
  number-first es all v,
  first refl,
  number-next-none es all v,
)
  where
    number-next-none : (es : List Elem) → All IsElem es → (v : List Value) → ends_at es v 0 ≡ 0
    number-next-none [] all v = refl
    number-next-none (e ∷ es) all v =
        let proper : e.span.start < e.span.end = (All-head IsElem e es all).0 in
        omega (
          arith,
          ends-cons e es v 0,
          number-next-none es (All-tail IsElem e es all) v,
          none
              (tuple_eq e.tuple v) e.span.start e.span.end proper,
        )
      where
        none : (b : Bool) (s e : ℕ) → s < e → cond {A = ℕ} (b && (e == 0)) 1 0 ≡ 0
        none true s e h = grind (arith, nat_tests)
        none false s e h = refl
number-turns es all v (suc t) n first later =
    let s : t + 1 ≡ suc t = omega arith in
    let z : suc t - 1 ≡ t = omega arith in
    let m : number es v t ≡ n = subst (λ u. number es v u ≡ n) z (later (omega arith)) in
    let q = subst (λ u. number es v u + ends_at es v u ≡ number es v t + starts_at es v u) s
    (number-next es all v t) in
    omega (arith, q, m)

-- one element more
pub starts-more : (es : List Elem) (e : Elem) (v : List Value) (t : ℕ)
    → starts_at (es ++ e ∷ []) v t ≡ starts_at es v t + cond (tuple_eq e.tuple v &&
    (e.span.start == t)) 1 0
starts-more es e v t =
    let f : Elem → Bool = λ e. tuple_eq e.tuple v && (e.span.start == t) in
    omega (arith, count_by-append f es (e ∷ []), count_by-cons f e [])

pub ends-more : (es : List Elem) (e : Elem) (v : List Value) (t : ℕ)
    → ends_at (es ++ e ∷ []) v t ≡ ends_at es v t + cond (tuple_eq e.tuple v && (e.span.end == t)) 1
    0
ends-more es e v t =
    let f : Elem → Bool = λ e. tuple_eq e.tuple v && (e.span.end == t) in
    omega (arith, count_by-append f es (e ∷ []), count_by-cons f e [])
