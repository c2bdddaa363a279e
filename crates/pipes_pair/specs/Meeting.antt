-- What two elements make in a join.
use Rattle.std.specs.Prelude.{ℕ, ◌+◌, ◌≤◌, ◌<◌, Bool, ◌&&◌, true, false, if◌then◌else◌, List, []}
use Rattle.std.specs.Prelude.{◌∷◌, ◌++◌, length, max, min, Option, Some, None}
use Rattle.std.specs.List.{flat_map}
use Rattle.pipes_stream.specs.declared.Elem.{Elem}
use Rattle.pipes_relation.specs.declared.lists.Pair.{Pair}
use Rattle.pipes_expr.specs.declared.expr.Expr.{Expr}
use Rattle.pipes_relation.specs.Relations.{meets}
use Rattle.pipes_sweep.specs.Areas.{is_overlap}

-- the concatenation, valid while both are
abbrev pub both_of : Elem → Elem → Elem
both_of l r = record {
  tuple = l.tuple ++ r.tuple;
  span = record { start = max l.span.start r.span.start; end = min l.span.end r.span.end };
}

-- the element that two elements make, where their rows meet while both are valid
abbrev pub joined_elem : List Pair → Expr → Elem → Elem → List Elem
joined_elem pairs condition l r =
    if is_overlap l.span r.span && meets pairs condition l.tuple r.tuple
    then both_of l r ∷ [] else []

-- the same of an element of one side, the left where the flag is set, and one of the other
abbrev pub joined_from : List Pair → Expr → Bool → Elem → Elem → List Elem
joined_from pairs condition true = joined_elem pairs condition
joined_from pairs condition false = λ own other. joined_elem pairs condition other own

-- for each element of one side and each of the other
abbrev pub made_by : (Elem → Elem → List Elem) → List Elem → List Elem → List Elem
made_by make owns others = flat_map (λ own. flat_map (make own) others) owns

-- the concatenation has at most 32 values
abbrev pub AreNarrow : Elem → Elem → Type 0
AreNarrow a b = length a.tuple + length b.tuple ≤ 32

abbrev pub listed : Option Elem → List Elem
listed (Some e) = e ∷ []
listed None = []
