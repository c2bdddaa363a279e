-- The multiples of a slide, from below and from above.
use Rattle.std.proofs.Common.{◌≡◌, ℕ, suc, ◌+◌, ◌*◌, ◌/◌, ◌≤◌, ◌<◌, ◌↔◌, true, false, Option, Some}
use Rattle.std.proofs.Common.{None, IsSome, IfSome, sym, ◌∙◌, subst, arith}
use Rattle.std.proofs.Math.Nat.{mul-le-mul_right, lt_of_mul-lt-mul_right, lt_of_not-le}
use Rattle.std.proofs.Math.Nat.{le-div_iff_mul-le}
use Rattle.std.proofs.lemmas.Grind.{div_ceil_times}
use Rattle.std.specs.Int.{div_ceil}
use Rattle.pipes_time.specs.Interval.{Span, horizon, IsInterval, IsPart}
use Rattle.pipes_time.specs.Slides.{last_slide, next_slide, slide_end, IsInSlide}

-- the next multiple is less than a slide away
pub slide_bound : (t slide : ℕ) → 0 < slide → next_slide slide t < t + slide
slide_bound t slide some = (div_ceil_times t slide some).1

-- The next multiple from a number on has come exactly where the number is not above the last one.
pub slides-meet : (slide n t : ℕ) → 1 ≤ slide → (next_slide slide n ≤ t) ↔ (n ≤ last_slide slide t)
slides-meet slide n t some = (to, fro)
  where
    to : next_slide slide n ≤ t → n ≤ last_slide slide t
    to h =
        let above : n ≤ next_slide slide n = (div_ceil_times n slide some).0 in
        let turns : div_ceil n slide ≤ t / slide =
        (le-div_iff_mul-le {k = slide} {x = div_ceil n slide} {y = t} some).1 h in
        let times : next_slide slide n ≤ last_slide slide t = mul-le-mul_right slide turns in
        omega arith

    fro : n ≤ last_slide slide t → next_slide slide n ≤ t
    fro h =
        let near : next_slide slide n < n + slide = (div_ceil_times n slide some).1 in
        let less : div_ceil n slide * slide < suc (t / slide) * slide = omega arith in
        let turns : div_ceil n slide < suc (t / slide) = lt_of_mul-lt-mul_right slide less in
        (le-div_iff_mul-le {k = slide} {x = div_ceil n slide} {y = t} some).0 (omega arith)

-- A row's instants are those from its start up to its end.
pub in_slide : (stamp size slide t : ℕ) → 1 ≤ slide
    → IsInSlide stamp size slide t
    ↔ ((next_slide slide stamp ≤ t) × (t < slide_end size slide stamp))
in_slide stamp size slide t some = (to, fro)
  where
    starts : (next_slide slide stamp ≤ t) ↔ (stamp ≤ last_slide slide t)
    starts = slides-meet slide stamp t some

    ends : (next_slide slide (stamp + size) ≤ t) ↔ (stamp + size ≤ last_slide slide t)
    ends = slides-meet slide (stamp + size) t some

    to : IsInSlide stamp size slide t
        → (next_slide slide stamp ≤ t) × (t < slide_end size slide stamp)
    to is =
        let young = is.is_young in
        let below = is.is_instant in
        let before : t < next_slide slide (stamp + size) =
        lt_of_not-le (λ h. let old : stamp + size ≤ last_slide slide t = ends.0 h in
        absurd (omega arith)) in
        (starts.1 is.has_come, omega arith)

    fro : (next_slide slide stamp ≤ t) × (t < slide_end size slide stamp)
        → IsInSlide stamp size slide t
    fro is =
        let before = is.1 in
        record {
          has_come = starts.0 is.0;
          is_young = lt_of_not-le
              (λ h. let after : next_slide slide (stamp + size) ≤ t = ends.1 h in
              absurd (omega arith));
          is_instant = omega arith;
        }

pub slide_part : (stamp size slide start end : ℕ) (span : Option Span) → 1 ≤ slide
    → start ≡ next_slide slide stamp → end ≡ slide_end size slide stamp
    → (IsSome span ↔ IsInterval start end)
    → IfSome span (λ s. s ≡ record { start = start; end = end })
    → IsPart span (IsInSlide stamp size slide)
slide_part stamp size slide start end (Some span) some begins ends exact value =
    let whole : span ≡ record { start = next_slide slide stamp; end = slide_end size slide stamp } =
    value ∙ (λ i. record { start = begins i; end = ends i }) in
    subst (λ (s : Span). IsPart (Some s) (IsInSlide stamp size slide)) (sym whole)
    (λ t. ((in_slide stamp size slide t some).1, (in_slide stamp size slide t some).0))
slide_part stamp size slide start end None some begins ends exact value = λ t is.
    let inside = (in_slide stamp size slide t some).0 is in
    let first : start ≤ t = rw begins inside.0 in
    let last : t < end = rw ends inside.1 in
    let bound : end ≤ horizon = rw ends (omega arith) in
    let there : false ≡ true = exact.1 (omega arith, bound) in
    cc

-- the next multiple is not before the instant
pub slide-after : (t slide : ℕ) → 1 ≤ slide → t ≤ next_slide slide t
slide-after t slide some = (div_ceil_times t slide some).0

pub slides-rise : (slide s t : ℕ) → 1 ≤ slide → s ≤ t → next_slide slide s ≤ next_slide slide t
slides-rise slide s t some h =
    let up : t ≤ last_slide slide (next_slide slide t) =
    (slides-meet slide t (next_slide slide t) some).0 (omega arith) in
    (slides-meet slide s (next_slide slide t) some).1 (omega arith)
