-- What is valid at an instant.
use Rattle.std.specs.Prelude.{ℕ, List, Bool, ◌&&◌, nat_le, nat_lt, map, filter}
use Rattle.pipes_time.specs.Interval.{Span}
use Rattle.pipes_tuple.specs.declared.value.Value.{Value}
use Rattle.pipes_stream.specs.declared.Elem.{Elem}

-- whether the instant lies in the interval
abbrev pub is_held : Span → ℕ → Bool
is_held span t = nat_le span.start t && nat_lt t span.end

-- the tuples of the elements that are valid at the instant
abbrev pub snapshot : List Elem → ℕ → List (List Value)
snapshot elems t = map (λ e. e.tuple) (filter (λ e. is_held e.span t) elems)
