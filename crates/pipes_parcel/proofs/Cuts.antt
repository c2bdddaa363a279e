-- The parts of a cut, as elements.
use Rattle.std.proofs.Common.{◌≡◌, ℕ, ◌-◌, ◌≤◌, ◌<◌, ◌↔◌, Option, Some, None, List, [], ◌∷◌, ◌++◌}
use Rattle.std.proofs.Common.{ap, ◌∙◌, arith, append-nil, inl, inr, ⊎_elim}
use Rattle.std.proofs.Common.{IfSome}
use Rattle.std.proofs.lemmas.Bool.{cases_lt}
use Rattle.pipes_time.specs.Interval.{Span, Holds}
use Rattle.pipes_stream.specs.declared.Elem.{Elem}
use Rattle.pipes_split.specs.Cutting.{IsPartOf, IsCut}
use Rattle.pipes_parcel.specs.declared.parcel.Fed.{Fed}
use Rattle.pipes_parcel.specs.declared.parcel.Fed.TheVariants.{Part}
use Rattle.pipes_parcel.specs.declared.cutter.Rest.TheVariants.{Below, Above}
use Rattle.pipes_parcel.specs.Pieces.{parcel, up_to, from_on}
use Rattle.pipes_parcel.specs.Placed.{PutsBelow, feds_of_part}

-- an interval is not empty
abbrev HasInstants : Elem → Type 0
HasInstants e = e.span.start < e.span.end

-- an interval that holds exactly the instants from one up to another
same_start : (a : Span) (s f : ℕ) → a.start < a.end → s < f
    → ((u : ℕ) → Holds a u ↔ ((s ≤ u) × (u < f))) → a.start ≡ s
same_start a s f within some is =
    let first : s ≤ a.start = ((is a.start).0 (omega arith, within)).0 in
    let later : a.start ≤ s = ((is s).1 (omega arith, some)).0 in
    omega (arith, first, later)

same_end : (a : Span) (s f : ℕ) → a.start < a.end → s < f
    → ((u : ℕ) → Holds a u ↔ ((s ≤ u) × (u < f))) → a.end ≡ f
same_end a s f within some is =
    let start : a.start ≤ a.end - 1 = omega (arith, within) in
    let below : a.end - 1 < a.end = omega (arith, within) in
    let low : a.end - 1 < f = ((is (a.end - 1)).0 (start, below)).1 in
    let from : s ≤ f - 1 = omega (arith, some) in
    let under : f - 1 < f = omega (arith, some) in
    let high : f - 1 < a.end = ((is (f - 1)).1 (from, under)).1 in
    omega (arith, low, high, within, some)

part_is : (e a : Elem) (s f : ℕ) (P : ℕ → Type 0) → HasInstants a → s < f
    → IsPartOf e P (Some a) → ((u : ℕ) → P u ↔ ((s ≤ u) × (u < f)))
    → a ≡ record { tuple = e.tuple; span = record { start = s; end = f } }
part_is e a s f P within some part is =
    let holds : (u : ℕ) → Holds a.span u ↔ ((s ≤ u) × (u < f)) =
    λ u. (λ h. (is u).0 ((part.1 u).0 h), λ h. (part.1 u).1 ((is u).1 h)) in
    let tuple : a.tuple ≡ e.tuple = part.0 in
    let start : a.span.start ≡ s = same_start a.span s f within some holds in
    let end : a.span.end ≡ f = same_end a.span s f within some holds in
    λ i. record { tuple = tuple i; span = record { start = start i; end = end i } }

-- some instant lies below the split, and some from it on
starts_below : (e a : Elem) (t : ℕ) (above : Option Elem) → HasInstants a
    → IsCut e t (Some a) above → e.span.start < t
starts_below e a t above within is =
    let h = (is.below.1 a.span.start).0 (omega arith, within) in
    omega (arith, h.0.0, h.1)

starts_at : (e : Elem) (t : ℕ) (above : Option Elem) → HasInstants e → IsCut e t None above
    → t ≤ e.span.start
starts_at e t above within is =
    ⊎_elim (λ low. absurd (is.below e.span.start ((omega arith, within), low)))
    (λ high. high) (cases_lt e.span.start t)

ends_above : (e b : Elem) (t : ℕ) (below : Option Elem) → HasInstants b
    → IsCut e t below (Some b) → t < e.span.end
ends_above e b t below within is =
    let h = (is.above.1 b.span.start).0 (omega arith, within) in
    omega (arith, h.0.1, h.1)

ends_at : (e : Elem) (t : ℕ) (below : Option Elem) → HasInstants e → IsCut e t below None
    → e.span.end ≤ t
ends_at e t below within is =
    let start : e.span.start ≤ e.span.end - 1 = omega (arith, within) in
    let under : e.span.end - 1 < e.span.end = omega (arith, within) in
    ⊎_elim (λ low. omega (arith, low))
    (λ high. absurd (is.above (e.span.end - 1) ((start, under), high)))
    (cases_lt (e.span.end - 1) t)

-- nothing is left above
pub puts-below : (epoch t : ℕ) (e : Elem) (below : Option Elem) (before now : List Fed)
    → HasInstants e → IfSome below HasInstants → IsCut e t below None
    → now ≡ before ++ feds_of_part epoch below → PutsBelow epoch t e Below before now
puts-below epoch t e None before now within part is put =
    let low = starts_at e t None within is in
    let end = ends_at e t None within is in
    absurd (omega (arith, low, end, within))
puts-below epoch t e (Some a) before now within part is put =
    let end = ends_at e t (Some a) within is in
    let same : a ≡ e = part_is e a e.span.start e.span.end _ part within is.below
    (λ u. (λ h. h.0, λ h. (h, omega (arith, h.1, end)))) in
    (end, put ∙ ap (λ (d : Elem). before ++ Part (parcel epoch d) ∷ []) same)

-- something is left above
pub puts-above : (epoch t : ℕ) (e rest : Elem) (below : Option Elem) (before now : List Fed)
    → HasInstants e → IfSome below HasInstants → HasInstants rest → IsCut e t below (Some rest)
    → now ≡ before ++ feds_of_part epoch below → PutsBelow epoch t e (Above rest) before now
puts-above epoch t e rest None before now within part above is put =
    let low = starts_at e t (Some rest) within is in
    let same : rest ≡ e = part_is e rest e.span.start e.span.end _ above within is.above
    (λ u. (λ h. h.0, λ h. (h, omega (arith, h.0, low)))) in
    inl (low, same, put ∙ append-nil before)
puts-above epoch t e rest (Some a) before now within part above is put =
    let low : e.span.start < t = starts_below e a t (Some rest) part is in
    let high : t < e.span.end = ends_above e rest t (Some a) above is in
    let first : a ≡ up_to t e = part_is e a e.span.start t _ part low is.below
    (λ u. (λ h. (h.0.0, h.1), λ h. ((h.0, omega (arith, h.1, high)), h.1))) in
    let second : rest ≡ from_on t e = part_is e rest t e.span.end _ above high is.above
    (λ u. (λ h. (h.1, h.0.1), λ h. ((omega (arith, h.0, low), h.1), h.0))) in
    inr (low, high, second, put ∙ ap (λ (d : Elem). before ++ Part (parcel epoch d) ∷ []) first)
