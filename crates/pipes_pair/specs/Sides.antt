-- What one side of a join keeps. Only private functions need these definitions.
use Rattle.std.specs.Prelude.{◌≡◌, ℕ, List, [], ◌∷◌, ◌++◌, length, ◌≤◌}
use Rattle.std.specs.List.{All, flat_map}
use Rattle.pipes_tuple.specs.Columns.{at_columns, HasColumns}
use Rattle.pipes_tuple.proofs.Perm.{Perm}
use Rattle.pipes_tuple.specs.declared.value.Kind.{Kind}
use Rattle.pipes_stream.specs.declared.Elem.{Elem}
use Rattle.pipes_stream.specs.declared.message.Message.{Message}
use Rattle.pipes_stream.specs.declared.message.Message.TheVariants as message
use Rattle.pipes_stream.specs.Progress.{Progress}
use Rattle.pipes_stream.specs.Lists.{CanFollow, after, elements}
use Rattle.pipes_relation.specs.declared.lists.Pair.{Pair}
use Rattle.pipes_relation.specs.Tables.{left_columns, right_columns}
use Rattle.pipes_sweep.specs.Areas.{KeptByKey, AreaHolds, elems_with_key}
use Rattle.pipes_pair.specs.declared.side.Side.{Side}
use Rattle.pipes_pair.specs.Meeting.{AreNarrow}

-- each of the first makes with each of the second at most 32 values
abbrev pub AllNarrow : List Elem → List Elem → Type 0
AllNarrow owns others = All (λ own. All (AreNarrow own) others) owns

-- What is so of the sides of a join that has a schema: a row of both has at most 32 columns, and
-- the columns of the pairs are there.
pub record SidesFit (k : List Pair) (s t : List Kind) : Type 0 where
  pub width : length (s ++ t) ≤ 32
  pub left : HasColumns (left_columns k) s
  pub right : HasColumns (right_columns k) t

-- the columns of the element's key are there
abbrev pub HasKey : List ℕ → Elem → Type 0
HasKey columns e = HasColumns columns e.tuple

-- for each element of one side and each of the other that has its key
abbrev pub made_by_key : (Elem → Elem → List Elem) → List ℕ → List ℕ → List Elem → List Elem
    → List Elem
made_by_key make own_columns other_columns owns others =
    flat_map (λ own. flat_map (make own)
    (elems_with_key other_columns (at_columns own_columns own.tuple) others)) owns

-- The message's element is kept, and what it and the other side's elements of its key make waits.
pub record KeepsElem (make : Elem → Elem → List Elem) (old new other : KeptByKey)
    (before now : List Elem) (m : Message) : Type 0 where
  pub columns : new.columns ≡ old.columns
  pub keeps : All (HasKey old.columns) (elements (m ∷ []))
      → (list : List Elem) → AreaHolds old list → AreaHolds new (list ++ elements (m ∷ []))
  pub puts : All (HasKey old.columns) (elements (m ∷ []))
      → (list : List Elem) → AreaHolds other list → AllNarrow (elements (m ∷ [])) list
      → Perm now (made_by_key make old.columns other.columns (elements (m ∷ [])) list ++ before)

-- The side took the message.
pub record Admits (make : Elem → Elem → List Elem) (old new other : Side)
    (before now : List Elem) (m : Message) : Type 0 where
  pub follows : CanFollow old.watch m → new.watch ≡ after old.watch m
  pub kept : KeepsElem make old.area new.area other.area before now m

-- how many elements of the other side have the key of the message's element
abbrev pub met_count : KeptByKey → KeptByKey → Message → ℕ
met_count own other (message.Elem e) =
    length (elems_with_key other.columns (at_columns own.columns e.tuple) other.elems)
met_count own other (message.Beat at) = 0
met_count own other message.End = 0
