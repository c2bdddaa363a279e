-- An area's elements by number, and their numbers by key and by end. Only private functions and
-- those of a store need these definitions.
use Rattle.std.specs.Prelude.{◌≡◌, ℕ, ◌<◌, ◌≤◌, Bool, List, [], ◌∷◌, Option, Some, None, cond}
use Rattle.std.specs.Prelude.{length, slice_get, IsSome, IfSome}
use Rattle.std.specs.List.{All, filter}
use Rattle.std.specs.List.Sorted.{IsStrictlySortedBy}
use Rattle.std.specs.declared.cmp.Ordering.{Ordering}
use Rattle.std.specs.Ordering.{is_eq, nat_cmp, ordering_then}
use Rattle.std.specs.BTreeMap.{BTreeMap, get}
use Rattle.std.specs.BTreeSet.{BTreeSet}
use Rattle.std.specs.Map.{keys_of, values_of, lookup}
use Rattle.pipes_tuple.specs.declared.value.Value.{Value}
use Rattle.pipes_tuple.specs.Columns.{at_columns}
use Rattle.pipes_tuple.specs.Equal.{tuple_eq}
use Rattle.pipes_stream.specs.declared.Elem.{Elem}
use Rattle.pipes_sweep.specs.Areas.{has_key}

-- elements with their numbers
abbrev pub Numbered : Type 0
Numbered = List (ℕ × Elem)

-- each number is below the next
abbrev pub IsRising : Numbered → Type 0
IsRising store = IsStrictlySortedBy nat_cmp (keys_of store)

abbrev pub is_number : ℕ → ℕ → Bool
is_number number k = is_eq (nat_cmp number k)

-- the element of this number
abbrev pub element : ℕ → Numbered → Option Elem
element number store = lookup (is_number number) store

-- the numbers of the elements of this key, in order
abbrev pub numbers_of : List ℕ → List Value → Numbered → List ℕ
numbers_of columns key store = keys_of (filter (λ p. has_key columns key p.1) store)

abbrev pub numbers_in : Option (BTreeSet ℕ) → List ℕ
numbers_in None = []
numbers_in (Some set) = set.keys

-- the numbers that are left to an iterator, if there is one
abbrev pub numbers_left : Option (List ℕ) → List ℕ
numbers_left None = []
numbers_left (Some numbers) = numbers

-- the numbers that an index has for this key
abbrev pub numbers_at : List (List Value × BTreeSet ℕ) → List Value → List ℕ
numbers_at sets key = numbers_in (lookup (tuple_eq key) sets)

-- the order of ends, and of numbers where the ends are equal
abbrev pub end_cmp : ℕ × ℕ → ℕ × ℕ → Ordering
end_cmp x y = ordering_then (nat_cmp x.0 y.0) (nat_cmp x.1 y.1)

-- the key of an element that ends at the instant
abbrev pub key_ending : List ℕ → ℕ → Option Elem → Option (List Value)
key_ending columns end None = None
key_ending columns end (Some e) =
    cond (is_number e.span.end end) (Some (at_columns columns e.tuple)) None

-- every element ends after the instant
abbrev pub EndsLater : ℕ → BTreeMap (ℕ × ℕ) (List Value) → Type 0
EndsLater t ends = (q : ℕ × ℕ) → IsSome (get end_cmp ends q) → t < q.0

-- the first, which there is, doesn't
abbrev pub FirstEnds : ℕ → BTreeMap (ℕ × ℕ) (List Value) → Type 0
FirstEnds t ends = IfSome (slice_get ends.entries 0) (λ p. p.0.0 ≤ t) × (0 < length ends.entries)

-- the element of this number and key, which ended at the instant or before it, went
pub record PopsEnded (t : ℕ) (old new : BTreeMap (ℕ × ℕ) (List Value)) (number : ℕ)
    (key : List Value) : Type 0 where
  pub end : ℕ
  pub ended : end ≤ t
  pub there : get end_cmp old (end, number) ≡ Some key
  pub rest : (q : ℕ × ℕ) → get end_cmp new q
      ≡ cond (is_eq (end_cmp (end, number) q)) None (get end_cmp old q)

-- The indices say, for each key, the numbers of its elements, and for each end and number, the key
-- of that element.
pub record IsIndexed (columns : List ℕ) (store : Numbered) (sets : List (List Value × BTreeSet ℕ))
    (ends : BTreeMap (ℕ × ℕ) (List Value)) : Type 0 where
  pub rising : IsRising store
  pub by_key : (key : List Value) → numbers_at sets key ≡ numbers_of columns key store
  pub by_end : (end number : ℕ)
      → get end_cmp ends (end, number) ≡ key_ending columns end (element number store)
