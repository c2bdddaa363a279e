-- Elements that were over before the split touch none of those that a merge sends.
use Rattle.std.proofs.Common.{◌≡◌, ℕ, ◌<◌, List, [], ◌∷◌, ◌++◌, refl, arith}
use Rattle.std.specs.List.{All}
use Rattle.std.proofs.lemmas.List.Elements.{All-head, All-tail}
use Rattle.pipes_time.specs.Interval.{IsInterval}
use Rattle.pipes_stream.specs.declared.Elem.{Elem}
use Rattle.pipes_stream.specs.Weights.{weigh}
use Rattle.pipes_stream.proofs.Weights.{weigh-append, weigh-none, weigh-same}
use Rattle.pipes_coalesce.specs.Tests.{touch, touching}
use Rattle.pipes_coalesce.proofs.Touching.{end-apart, start-apart}

-- no element ends at the split, or starts there
first-none : (split : ℕ) (all es : List Elem) → All (λ e. e.span.end < split) es
    → weigh (λ x. weigh (touch split x) all) es ≡ 0
first-none split all [] over = refl
first-none split all (x ∷ es) over =
    let low : x.span.end < split = All-head (λ (e : Elem). e.span.end < split) x es over in
    let none : weigh (touch split x) all ≡ 0 =
    weigh-none (touch split x) (λ y. end-apart split x y (λ e. omega (arith, low, e))) all in
    omega (
      arith,
      none,
      first-none split all es (All-tail (λ (e : Elem). e.span.end < split) x es over),
    )

second-none : (split : ℕ) (x : Elem) (es : List Elem) → All (λ e. e.span.end < split) es
    → All (λ e. IsInterval e.span.start e.span.end) es → weigh (touch split x) es ≡ 0
second-none split x [] over all = refl
second-none split x (y ∷ es) over all =
    let low : y.span.end < split = All-head (λ (e : Elem). e.span.end < split) y es over in
    let span : IsInterval y.span.start y.span.end =
    All-head (λ (e : Elem). IsInterval e.span.start e.span.end) y es all in
    omega (
      arith,
      start-apart split x y (λ e. omega (arith, low, e, span.0)),
      second-none split x es (All-tail (λ (e : Elem). e.span.end < split) y es over)
          (All-tail (λ (e : Elem). IsInterval e.span.start e.span.end) y es all),
    )

pub apart-append : (split : ℕ) (earlier sent : List Elem) → All (λ e. e.span.end < split) earlier
    → All (λ e. IsInterval e.span.start e.span.end) earlier → touching split sent ≡ 0
    → touching split (earlier ++ sent) ≡ 0
apart-append split earlier sent over all none =
    let f : Elem → ℕ = λ (x : Elem). weigh (touch split x) (earlier ++ sent) in
    let later : weigh f sent ≡ touching split sent =
    weigh-same f (λ (x : Elem). weigh (touch split x) sent) (λ x. omega (
      arith,
      weigh-append (touch split x) earlier sent,
      second-none split x earlier over all,
    )) sent in
    omega (
      arith,
      none,
      later,
      weigh-append f earlier sent,
      first-none split (earlier ++ sent) earlier over,
    )
