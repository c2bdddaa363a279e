-- Where what comes to the top of a plan starts and ends.
use Rattle.std.proofs.Common.{◌≡◌, ℕ, zero, suc, ◌≤◌, ◌<◌, Bool, true, false, cond, nat_le}
use Rattle.std.proofs.Common.{min}
use Rattle.std.proofs.Common.{List, [], ◌∷◌, refl, ◌∙◌, ap, arith}
use Rattle.std.specs.List.{All}
use Rattle.std.proofs.lemmas.Bool.{lt-leb}
use Rattle.std.proofs.lemmas.List.Elements.{All-head, All-tail, All-contains, Contains-push}
use Rattle.pipes_time.specs.Interval.{horizon, closed}
use Rattle.pipes_tuple.specs.declared.value.Kind.{Kind}
use Rattle.pipes_stream.specs.declared.Elem.{Elem}
use Rattle.pipes_stream.specs.declared.message.Message.{Message}
use Rattle.pipes_stream.specs.Lists.{Valid, start_of_list, elements}
use Rattle.pipes_stream.specs.Lawful.{Lists, IsCovered, floor}
use Rattle.pipes_stream.specs.Weights.{weigh}
use Rattle.pipes_stream.proofs.Following.{intervals}
use Rattle.pipes_coalesce.specs.Tests.{starts_below}
use Rattle.pipes_coalesce.proofs.Touching.{not-lt}
use Rattle.pipes_plan.specs.declared.plan.Plan.{Plan}
use Rattle.pipes_box.specs.Prompt.{floors}
use Rattle.pipes_works.specs.Sources.{IsCoveredBySource}
use Rattle.pipes_moving.specs.Moves.{AllStartFrom}

module _ (schemas : List (List Kind)) (plan : Plan) (by_source : Lists) where
  -- starts no earlier
  pub top-starts : (low : ℕ) (es : List Elem) → AllStartFrom schemas plan low by_source
      → All (IsCoveredBySource schemas plan by_source) es → weigh (starts_below low) es ≡ 0
  top-starts low [] starts all = refl
  top-starts low (e ∷ es) starts all =
      let c : IsCoveredBySource schemas plan by_source e =
      All-head (IsCoveredBySource schemas plan by_source) e es all in
      let given : List Elem = elements (by_source c.0) in
      let d = c.2 in
      let high : low ≤ d.0.span.start = All-contains (λ (e : Elem). low ≤ e.span.start) given d.0
      (starts c.0 c.1) d.1 in
      omega (
        arith,
        not-lt e.span.start low (omega (arith, high, d.2)),
        top-starts low es starts (All-tail (IsCoveredBySource schemas plan by_source) e es all),
      )

-- ---- how far a heartbeat is kept back by what starts from an instant on

-- an element that covers all that starts from the instant on
abbrev pub rest_from : ℕ → Elem
rest_from low = record { tuple = []; span = record { start = low; end = horizon } }

pub rest-covers : (low : ℕ) (ms : List Message) → Valid ms
    → All (λ e. low ≤ e.span.start) (elements ms)
    → All (IsCovered (rest_from low ∷ [])) (elements ms)
rest-covers low ms valid starts =
    let spans = intervals start_of_list ms valid in
    λ k e at. (rest_from low, Contains-push [] (rest_from low), starts k e at, (spans k e at).1)

same-least : (b : Bool) (n : ℕ) → min (cond b n n) n ≡ n
same-least true n = omega arith
same-least false n = omega arith

pub rest-floors : (n low : ℕ) → floors n low (rest_from low ∷ []) ≡ low
rest-floors zero low = refl
rest-floors (suc n) low =
    ap (λ (h : ℕ). floor h (rest_from low ∷ [])) (rest-floors n low)
    ∙ same-least (nat_le low horizon) low

-- ---- at the end of time nothing is kept back

-- an element that covers all that is ever valid
abbrev pub all_time : Elem
all_time = rest_from 0

pub all-covers : (ms : List Message) → Valid ms → All (IsCovered (all_time ∷ [])) (elements ms)
all-covers ms valid = rest-covers 0 ms valid (λ k e at. omega arith)

floor-over : (h : ℕ) (e : Elem) → e.span.end < h → floor h (e ∷ []) ≡ h
floor-over h e over =
    let at : ◌≡◌ {A = ℕ} (cond (nat_le h e.span.end) e.span.start h) h =
    rw (lt-leb _ _ over) refl in
    omega (arith, at)

pub all-floors : (n : ℕ) → floors n closed (all_time ∷ []) ≡ closed
all-floors zero = refl
all-floors (suc n) =
    ap (λ (h : ℕ). floor h (all_time ∷ [])) (all-floors n)
    ∙ floor-over closed all_time (omega arith)
