-- Where the elements of a list start and end.
use Rattle.std.proofs.Common.{◌≡◌, ℕ, ◌≤◌, List, [], ◌∷◌, refl, arith}
use Rattle.std.specs.List.{All}
use Rattle.std.proofs.lemmas.List.Elements.{All-nil, All-cons, All-head, All-tail}
use Rattle.pipes_stream.specs.declared.Elem.{Elem}
use Rattle.pipes_stream.specs.Weights.{weigh}
use Rattle.pipes_coalesce.specs.Tests.{ends_above, starts_below}
use Rattle.pipes_coalesce.proofs.Touching.{lt-zero, not-lt}

pub none-ends : (split : ℕ) (es : List Elem) → weigh (ends_above split) es ≡ 0
    → All (λ e. e.span.end ≤ split) es
none-ends split [] z = All-nil (λ (e : Elem). e.span.end ≤ split)
none-ends split (e ∷ es) z = All-cons (λ (e : Elem). e.span.end ≤ split) e es
    (lt-zero split e.span.end (omega (arith, z))) (none-ends split es (omega (arith, z)))

pub ends-none : (split : ℕ) (es : List Elem) → All (λ e. e.span.end ≤ split) es
    → weigh (ends_above split) es ≡ 0
ends-none split [] all = refl
ends-none split (e ∷ es) all = omega (
  arith,
  not-lt split e.span.end (All-head (λ (e : Elem). e.span.end ≤ split) e es all),
  ends-none split es (All-tail (λ (e : Elem). e.span.end ≤ split) e es all),
)

pub none-starts : (low : ℕ) (es : List Elem) → weigh (starts_below low) es ≡ 0
    → All (λ e. low ≤ e.span.start) es
none-starts low [] z = All-nil (λ (e : Elem). low ≤ e.span.start)
none-starts low (e ∷ es) z = All-cons (λ (e : Elem). low ≤ e.span.start) e es
    (lt-zero e.span.start low (omega (arith, z))) (none-starts low es (omega (arith, z)))

pub starts-none : (low : ℕ) (es : List Elem) → All (λ e. low ≤ e.span.start) es
    → weigh (starts_below low) es ≡ 0
starts-none low [] all = refl
starts-none low (e ∷ es) all = omega (
  arith,
  not-lt e.span.start low (All-head (λ (e : Elem). low ≤ e.span.start) e es all),
  starts-none low es (All-tail (λ (e : Elem). low ≤ e.span.start) e es all),
)

-- a lower bound that is lower
pub starts-lower : (low high : ℕ) (es : List Elem) → low ≤ high
    → weigh (starts_below high) es ≡ 0 → weigh (starts_below low) es ≡ 0
starts-lower low high es up z =
    let all = none-starts high es z in
    starts-none low es (λ k e at. omega (arith, up, all k e at))
