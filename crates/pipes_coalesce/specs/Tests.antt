-- Tests of elements, as weights: one where the element is so, and else 0.
use Rattle.std.specs.Prelude.{ℕ, ◌≡◌, Bool, cond, eqb, nat_le, nat_lt, not, ◌&&◌, List, ◌++◌}
use Rattle.pipes_time.specs.Interval.{horizon}
use Rattle.pipes_tuple.specs.Equal.{tuple_eq}
use Rattle.pipes_stream.specs.declared.Elem.{Elem}
use Rattle.pipes_stream.specs.Weights.{weigh}

abbrev pub if_so : Bool → ℕ
if_so b = cond b 1 0

abbrev pub starts_below : ℕ → Elem → ℕ
starts_below b e = if_so (nat_lt e.span.start b)

abbrev pub starts_above : ℕ → Elem → ℕ
starts_above b e = if_so (nat_lt b e.span.start)

abbrev pub starts_by : ℕ → Elem → ℕ
starts_by b e = if_so (nat_le e.span.start b)

abbrev pub starts_elsewhere : ℕ → Elem → ℕ
starts_elsewhere s e = cond (eqb e.span.start s) 0 1

abbrev pub ends_above : ℕ → Elem → ℕ
ends_above b e = if_so (nat_lt b e.span.end)

abbrev pub ends_at : ℕ → Elem → ℕ
ends_at t e = if_so (eqb e.span.end t)

abbrev pub ends_elsewhere : ℕ → Elem → ℕ
ends_elsewhere t e = cond (eqb e.span.end t) 0 1

-- it starts at or before the instant, and ends elsewhere than at the split
abbrev pub goes_by : ℕ → ℕ → Elem → ℕ
goes_by split b e = if_so (nat_le e.span.start b && not (eqb e.span.end split))

-- it ends at the split and starts below the instant
abbrev pub waits_below : ℕ → ℕ → Elem → ℕ
waits_below split b e = if_so (eqb e.span.end split && nat_lt e.span.start b)

-- its span is no interval
abbrev pub is_no_interval : Elem → ℕ
is_no_interval e = cond (nat_lt e.span.start e.span.end && nat_le e.span.end horizon) 0 1

-- the first ends at the split, and the second, of the same tuple, starts there
abbrev pub touch : ℕ → Elem → Elem → ℕ
touch split x y =
    if_so (tuple_eq x.tuple y.tuple && (eqb x.span.end split && eqb y.span.start split))

-- how many of the elements touch another of them so
abbrev pub touching : ℕ → List Elem → ℕ
touching split es = weigh (λ x. weigh (touch split x) es) es
