-- Lists in order of time, where each item has an instant: where those up to an instant end, and an
-- item placed after them.
use Rattle.std.proofs.Common.{◌≡◌, ℕ, zero, suc, ◌≤◌, ◌<◌, true, false, List, [], ◌∷◌}
use Rattle.std.proofs.Common.{length, take, drop, get_or, nat_le, nat_lt, filter, refl, sym}
use Rattle.std.proofs.Common.{ap, subst, arith}
use Rattle.std.specs.List.{All, insert}
use Rattle.std.specs.List.Sorted.{IsNonDecreasingBy, IsPartitionPoint}
use Rattle.std.proofs.lemmas.Bool.{le-leb, lt-leb, lt-ltb, le-ltb, leb-true, leb-false, ltb-true}
use Rattle.std.proofs.lemmas.List.Elements.{All-head, All-tail, All-weaker, filter_passes}
use Rattle.std.proofs.lemmas.List.Sorted.{IsNonDecreasingBy-insert, IsNonDecreasingBy-drop}
use Rattle.std.proofs.lemmas.List.Sorted.{IsNonDecreasingBy-take}

module _ {X : Type 0} (at : X → ℕ) where
  -- those up to the instant, and those after it
  abbrev up_to : ℕ → List X → List X
  up_to t xs = filter (λ x. nat_le (at x) t) xs

  abbrev past : ℕ → List X → List X
  past t xs = filter (λ x. nat_lt t (at x)) xs

  -- before this place the starts are at or below the instant, and from it on above
  pub record IsPlace (t : ℕ) (waiting : List X) (place : ℕ) : Type 0 where
    pub within : place ≤ length waiting
    pub low : (k : ℕ) (d : X) → k < place → at (get_or waiting k d) ≤ t
    pub high : (k : ℕ) (d : X) → place ≤ k → k < length waiting → t < at (get_or waiting k d)

  next : (t : ℕ) (e : X) (es : List X) (place : ℕ) → IsPlace t (e ∷ es) (suc place)
      → IsPlace t es place
  next t e es place is =
      record {
        within = omega (arith, is.within);
        low = λ k d h. is.low (suc k) d (omega arith);
        high = λ k d h l. is.high (suc k) d (omega arith) (omega arith);
      }

  same : (t : ℕ) (e : X) (es : List X) → IsPlace t (e ∷ es) zero → IsPlace t es zero
  same t e es is =
      record {
        within = omega arith;
        low = λ k d h. absurd (omega arith);
        high = λ k d h l. is.high (suc k) d (omega arith) (omega arith);
      }

  pub up_to-take : (t : ℕ) (es : List X) (place : ℕ) → IsPlace t es place
      → take place es ≡ up_to t es
  up_to-take t [] zero is = refl
  up_to-take t [] (suc place) is = absurd (let w : suc place ≤ zero = is.within in omega arith)
  up_to-take t (e ∷ es) zero is =
      rw (lt-leb (at e) t (is.high 0 e (omega arith) (omega arith)))
      (up_to-take t es zero (same t e es is))
  up_to-take t (e ∷ es) (suc place) is =
      rw (le-leb (at e) t (is.low 0 e (omega arith))) (ap (λ (xs : List X). e ∷ xs)
      (up_to-take t es place (next t e es place is)))

  pub past-drop : (t : ℕ) (es : List X) (place : ℕ) → IsPlace t es place → drop place es ≡ past t es
  past-drop t [] zero is = refl
  past-drop t [] (suc place) is = absurd (let w : suc place ≤ zero = is.within in omega arith)
  past-drop t (e ∷ es) zero is =
      rw (lt-ltb t (at e) (is.high 0 e (omega arith) (omega arith)))
      (ap (λ (xs : List X). e ∷ xs) (past-drop t es zero (same t e es is)))
  past-drop t (e ∷ es) (suc place) is =
      rw (le-ltb t (at e) (is.low 0 e (omega arith))) (past-drop t es place (next t e es place is))

  -- a test that splits the list there
  pub place-from_point : (t : ℕ) (es : List X) (place : ℕ) → place ≤ length es
      → IsPartitionPoint (λ (e : X). nat_le (at e) t ≡ true) (λ (e : X). nat_le (at e) t ≡ false) es
      place → IsPlace t es place
  place-from_point t es place w point =
      record {
        within = w;
        low = λ k d h. leb-true _ t (point.0 k d (omega arith) h);
        high = λ k d h l. leb-false _ t (point.1 k d h l);
      }

  prefix : (P : X → Type 0) (es : List X) (place : ℕ) → All P (take place es) → (k : ℕ) (d : X)
      → k < place → k < length es → P (get_or es k d)
  prefix P [] place h k d l m = absurd (omega arith)
  prefix P (x ∷ es) zero h k d l m = absurd (omega arith)
  prefix P (x ∷ es) (suc place) h zero d l m = All-head P x (take place es) h
  prefix P (x ∷ es) (suc place) h (suc k) d l m = prefix P es place (All-tail P x (take place es) h)
      k
      d (omega arith) (omega arith)

  back : (P : X → Type 0) (es : List X) (place : ℕ) → All P (drop place es) → (k : ℕ) (d : X)
      → place ≤ k → k < length es → P (get_or es k d)
  back P [] place h k d l m = absurd (omega arith)
  back P (x ∷ es) zero h k d l m = h k d m
  back P (x ∷ es) (suc place) h zero d l m = absurd (omega arith)
  back P (x ∷ es) (suc place) h (suc k) d l m = back P es place h k d (omega arith) (omega arith)

  -- those that stay start after the instant, those that go do not
  pub past-above : (t : ℕ) (es : List X) → All (λ e. t < (at e)) (past t es)
  past-above t es = All-weaker (λ (e : X). nat_lt t (at e) ≡ true) (λ (e : X). t < (at e))
      (λ e h. ltb-true t (at e) h) (past t es) (filter_passes (λ (e : X). nat_lt t (at e)) es)

  pub up_to-below : (t : ℕ) (es : List X) → All (λ e. (at e) ≤ t) (up_to t es)
  up_to-below t es = All-weaker (λ (e : X). nat_le (at e) t ≡ true) (λ (e : X). (at e) ≤ t)
      (λ e h. leb-true (at e) t h) (up_to t es) (filter_passes (λ (e : X). nat_le (at e) t) es)

  -- an element put after those that are up_to at its start
  pub rise-placed : (e : X) (es : List X) (place : ℕ) → IsNonDecreasingBy at es → place ≤ length es
      → take place es ≡ up_to (at e) es → drop place es ≡ past (at e) es
      → IsNonDecreasingBy at (insert es place e)
  rise-placed e es place rise within low high =
      let t : ℕ = (at e) in
      let before : All (λ d. (at d) ≤ t) (take place es) = subst
      (λ (ds : List X). All (λ d. (at d) ≤ t) ds) (sym low) (up_to-below t es) in
      let after : All (λ d. t < (at d)) (drop place es) = subst
      (λ (ds : List X). All (λ d. t < (at d)) ds) (sym high) (past-above t es) in
      IsNonDecreasingBy-insert at es place e rise within
      (λ k d h. prefix (λ (d : X). (at d) ≤ t) es place before k d h (omega arith))
      (λ k d h l. let s : t < at (get_or es k d) = back (λ (d : X). t < (at d)) es place after k d h
      l in omega arith)

  pub rise_up_to : (t : ℕ) (es : List X) (place : ℕ) → IsNonDecreasingBy at es
      → take place es ≡ up_to t es → IsNonDecreasingBy at (up_to t es)
  rise_up_to t es place rise is = subst (λ (ds : List X). IsNonDecreasingBy at ds) is
      (IsNonDecreasingBy-take at place es rise)

  pub rise_past : (t : ℕ) (es : List X) (place : ℕ) → IsNonDecreasingBy at es
      → drop place es ≡ past t es → IsNonDecreasingBy at (past t es)
  rise_past t es place rise is = subst (λ (ds : List X). IsNonDecreasingBy at ds) is
      (IsNonDecreasingBy-drop at place es rise)
