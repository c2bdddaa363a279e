-- Elements under instants.
use Rattle.std.specs.Prelude.{ℕ, ◌≡◌, ◌<◌, List, [], ◌∷◌}
use Rattle.pipes_stream.specs.declared.Elem.{Elem}
use Rattle.pipes_timeline.specs.Rules.{Arrival}

-- each element is under its instant, and a number below the next
abbrev pub IsFiled : (Elem → ℕ) → ℕ → List ((ℕ × ℕ) × Arrival) → Type 0
IsFiled at next [] = Unit {0}
IsFiled at next (p ∷ ps) = (p.0.0 ≡ at p.1.1) × (p.0.1 < next) × IsFiled at next ps

abbrev pub elem_end : Elem → ℕ
elem_end e = e.span.end

abbrev pub elem_start : Elem → ℕ
elem_start e = e.span.start
