-- Elements that are kept until they end, by their values in some columns.
use Rattle.std.specs.Prelude.{◌≡◌, ℕ, Bool, List, count_by, max, min, nat_le, nat_lt}
use Rattle.std.specs.List.{filter}
use Rattle.pipes_time.specs.Interval.{Span}
use Rattle.pipes_tuple.specs.declared.value.Value.{Value}
use Rattle.pipes_tuple.specs.Columns.{at_columns}
use Rattle.pipes_tuple.specs.Equal.{tuple_eq}
use Rattle.pipes_tuple.proofs.Perm.{Perm}
use Rattle.pipes_stream.specs.declared.Elem.{Elem}

-- what an area has: the columns that make the keys, and its elements
pub record KeptByKey : Type 0 where
  pub columns : List ℕ
  pub elems : List Elem

-- whether the element has these values in the columns
abbrev pub has_key : List ℕ → List Value → Elem → Bool
has_key columns key e = tuple_eq (at_columns columns e.tuple) key

-- the elements that have them, in order
abbrev pub elems_with_key : List ℕ → List Value → List Elem → List Elem
elems_with_key columns key list = filter (has_key columns key) list

-- whether two intervals have an instant in common; intervals that only touch have none
abbrev pub is_overlap : Span → Span → Bool
is_overlap a b = nat_lt (max a.start b.start) (min a.end b.end)

-- the elements that are valid at some instant of the interval, in order
abbrev pub overlapping : Span → List Elem → List Elem
overlapping span list = filter (λ e. is_overlap span e.span) list

-- The area stands for each list that has just its elements, each as often, with those of one key
-- in that key's order.
pub record AreaHolds (area : KeptByKey) (list : List Elem) : Type 0 where
  pub all : Perm area.elems list
  pub in_order : (key : List Value)
      → elems_with_key area.columns key area.elems ≡ elems_with_key area.columns key list

-- those that end after the instant
abbrev pub until : ℕ → List Elem → List Elem
until t list = filter (λ e. nat_lt t e.span.end) list

-- how many end at the instant or before it
abbrev pub ended_count : ℕ → List Elem → ℕ
ended_count t list = count_by (λ e. nat_le e.span.end t) list
