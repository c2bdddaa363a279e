-- Lists of which only the members matter, each as often as it occurs.
use Rattle.std.specs.Prelude.{ℕ, ◌≡◌, List}
use Rattle.pipes_stream.specs.Weights.{weigh}

-- Every weighing gives the same sum: the members are the same, each as often.
abbrev pub SameMembers : {X : Type 0} → List X → List X → Type 0
SameMembers {X} xs ys = (f : X → ℕ) → weigh f xs ≡ weigh f ys
