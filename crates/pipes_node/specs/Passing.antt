-- Which of the messages taken at a port passed its test.
use Rattle.std.specs.Prelude.{◌≡◌, List, [], ◌∷◌, ◌⊎◌}
use Rattle.pipes_tuple.specs.declared.value.Kind.{Kind}
use Rattle.pipes_stream.specs.declared.message.Message.{Message}
use Rattle.pipes_stream.specs.Progress.{Progress}
use Rattle.pipes_stream.specs.Lists.{CanFollow, after}
use Rattle.pipes_stream.specs.Lawful.{MessageFits}

-- the message may come after p, at a port for tuples of these kinds
abbrev pub MayPass : List Kind → Progress → Message → Type 0
MayPass kinds p m = CanFollow p m × MessageFits m kinds

-- the messages that passed after p: each that may come after those that passed before it, and no
-- other
abbrev pub Passes : List Kind → Progress → List Message → List Message → Type 0
Passes kinds p [] passed = passed ≡ []
Passes kinds p (m ∷ taken) passed =
    ((rest : List Message) × (passed ≡ m ∷ rest) × MayPass kinds p m
    × Passes kinds (after p m) taken rest) ⊎ ((MayPass kinds p m → ⊥)
    × Passes kinds p taken passed)
