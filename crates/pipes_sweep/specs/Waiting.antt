-- Elements that wait for their start, in the order in which they go.
use Rattle.std.specs.Prelude.{◌≡◌, ℕ, ◌≤◌, List, ◌∷◌, ◌++◌, nat_le, nat_lt}
use Rattle.std.specs.List.{All, Contains, filter}
use Rattle.std.specs.List.Sorted.{IsNonDecreasingBy}
use Rattle.pipes_stream.specs.declared.Elem.{Elem}

-- the starts never fall
abbrev pub StartsRise : List Elem → Type 0
StartsRise waiting = IsNonDecreasingBy (λ e. e.span.start) waiting

-- those that start at the instant or before it
abbrev pub due : ℕ → List Elem → List Elem
due t waiting = filter (λ e. nat_le e.span.start t) waiting

-- those that start after it
abbrev pub later : ℕ → List Elem → List Elem
later t waiting = filter (λ e. nat_lt t e.span.start) waiting

-- with the element after those that start no later than it
abbrev pub placed : Elem → List Elem → List Elem
placed e waiting = due e.span.start waiting ++ e ∷ later e.span.start waiting

-- the instant is the start of one of them, and none starts before it
pub record HasFirst (start : ℕ) (waiting : List Elem) : Type 0 where
  pub least : All (λ e. start ≤ e.span.start) waiting
  pub one : (e : Elem) × Contains waiting e × (e.span.start ≡ start)
