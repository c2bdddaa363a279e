-- The parts of an element that is cut: when they are there, where they start, and what is valid.
use Rattle.std.proofs.Common.{◌≡◌, ℕ, ◌-◌, ◌≤◌, ◌<◌, ◌↔◌, max, Bool, true, false, ◌&&◌, nat_le, nat_lt}
use Rattle.std.proofs.Common.{Option, Some, None, List, [], ◌∷◌, map, filter, refl, sym, ap, ◌∙◌}
use Rattle.std.proofs.Common.{arith, ◌⊎◌, inl, inr, ⊎_elim}
use Rattle.std.proofs.lemmas.Bool.{cases_lt, le-leb, lt-ltb, leb-true, ltb-true}
use Rattle.pipes_time.specs.Interval.{Span, Holds, IsInterval}
use Rattle.pipes_tuple.specs.declared.value.Value.{Value}
use Rattle.pipes_stream.specs.declared.Elem.{Elem}
use Rattle.pipes_stream.specs.Snapshot.{is_held, snapshot}
use Rattle.pipes_split.specs.Cutting.{IsPartOf, IsCut}

-- an instant is held or not
held-yes : (s : Span) (t : ℕ) → Holds s t → is_held s t ≡ true
held-yes s t h = let low = h.0 in let high = h.1 in
    rw (le-leb s.start t low, lt-ltb t s.end high) refl

pub held-no : (s : Span) (t : ℕ) → (Holds s t → ⊥) → is_held s t ≡ false
held-no s t h = go (nat_le s.start t) (nat_lt t s.end) refl refl
  where
    go : (a b : Bool) → nat_le s.start t ≡ a → nat_lt t s.end ≡ b → is_held s t ≡ false
    go true true p q = absurd (h (leb-true s.start t p, ltb-true t s.end q))
    go true false p q = rw (p, q) refl
    go false b p q = rw p refl

-- one element with the same tuple that is valid exactly then
pub snapshot-same : (a e : Elem) (t : ℕ) → a.tuple ≡ e.tuple → (Holds a.span t ↔ Holds e.span t)
    → snapshot (a ∷ []) t ≡ snapshot (e ∷ []) t
snapshot-same a e t tuple both = ⊎_elim
    (λ low. ⊎_elim
    (λ high. rw (held-yes e.span t (low, high), held-yes a.span t (both.1 (low, high)))
    (ap (λ (v : List Value). v ∷ []) tuple))
    (λ past. none (λ h. (let end = h.1 in omega (arith, end, past))))
    (cases_lt t e.span.end))
    (λ under. none (λ h. (let start = h.0 in omega (arith, start, under))))
    (start_or e.span.start t)
  where
    none : (Holds e.span t → ⊥) → snapshot (a ∷ []) t ≡ snapshot (e ∷ []) t
    none never = rw (held-no e.span t never, held-no a.span t (λ h. never (both.0 h))) refl

    start_or : (s t : ℕ) → (s ≤ t) ⊎ (t < s)
    start_or s t = ⊎_elim (λ under. inr under) (λ low. inl low) (cases_lt t s)

-- an element that isn't valid then
pub snapshot-none : (e : Elem) (t : ℕ) → (Holds e.span t → ⊥) → snapshot (e ∷ []) t ≡ []
snapshot-none e t never = rw (held-no e.span t never) refl

-- ---- the part before the split

pub first-there : (e a : Elem) (split : ℕ) (second : Option Elem)
    → IsInterval e.span.start e.span.end → IsInterval a.span.start a.span.end
    → IsCut e split (Some a) second → (e.span.start < split) × (a.span.start ≡ e.span.start)
first-there e a split second whole part cut =
    let some = part.0 in let all = whole.0 in
    let first = (cut.below.1 a.span.start).0 (omega (arith, some), some) in
    let low : e.span.start < split = (let from = first.0.0 in let under = first.1 in
    omega (arith, from, under)) in
    let start = (cut.below.1 e.span.start).1 ((omega (arith, all), all), low) in
    let from = first.0.0 in let onto = start.0 in
    (low, omega (arith, from, onto))

pub first-gone : (e : Elem) (split : ℕ) (second : Option Elem)
    → IsInterval e.span.start e.span.end → IsCut e split None second → split ≤ e.span.start
first-gone e split second whole cut =
    let all = whole.0 in
    ⊎_elim (λ low. absurd (cut.below e.span.start ((omega (arith, all), all), low))) (λ high. high)
    (cases_lt e.span.start split)

-- ---- the part from it on

pub second-there : (e b : Elem) (split : ℕ) (first : Option Elem)
    → IsInterval e.span.start e.span.end → IsInterval b.span.start b.span.end
    → IsCut e split first (Some b)
    → (split < e.span.end) × (b.span.start ≡ max e.span.start split)
second-there e b split first whole part cut =
    let some = part.0 in let all = whole.0 in
    let at = (cut.above.1 b.span.start).0 (omega (arith, some), some) in
    let from = at.0.0 in let under = at.0.1 in let over = at.1 in
    let high : split < e.span.end = omega (arith, under, over) in
    let start = (cut.above.1 (max e.span.start split)).1
    ((omega arith, omega (arith, all, high)), omega arith) in
    let onto = start.0 in
    (high, omega (arith, from, over, onto))

pub second-gone : (e : Elem) (split : ℕ) (first : Option Elem)
    → IsInterval e.span.start e.span.end → IsCut e split first None → e.span.end ≤ split
second-gone e split first whole cut =
    let all = whole.0 in
    ⊎_elim (λ high. absurd (cut.above (max e.span.start split)
    ((omega arith, omega (arith, all, high)), omega arith)))
    (λ low. low) (cases_lt split e.span.end)
