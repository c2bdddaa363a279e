-- The sources, plans and derivations of the worked rows.
use Rattle.std.specs.Prelude.{◌≡◌, ℕ, List, [], ◌∷◌, pos, Option, Some, None, codes}
use Rattle.pipes_tuple.specs.declared.value.Value.TheVariants.{Int}
use Rattle.pipes_tuple.specs.declared.value.Kind.TheVariants as kind
use Rattle.pipes_stream.specs.declared.Elem.{Elem}
use Rattle.pipes_window.specs.declared.item.Item.{Item}
use Rattle.pipes_window.specs.declared.item.Item.TheVariants.{Row, Beat}
use Rattle.pipes_window.specs.declared.kind.WindowKind.{WindowKind}
use Rattle.pipes_window.specs.declared.kind.WindowKind.TheVariants.{Time}
use Rattle.pipes_feed.specs.declared.reason.Reason.TheVariants as reason
use Rattle.pipes_feed.specs.Items.{Items}
use Rattle.pipes_query.specs.declared.query.SourceDecl.{SourceDecl}
use Rattle.pipes_output.specs.declared.entry.Entry.{Entry}
use Rattle.pipes_output.specs.declared.entry.Entry.TheVariants.{Result as Found}

-- two plans
pub data TestPlan : Type 0 where
  Apart : TestPlan
  Together : TestPlan

-- derivations: from the first to the second, back, and one that fails
pub data TestMove : Type 0 where
  Merge : TestMove
  Back : TestMove
  Bad : TestMove

-- the plan that each is to lead to
abbrev pub test_target : TestMove → TestPlan
test_target Merge = Together
test_target Back = Apart
test_target Bad = Together

-- the number of the first step that fails, if one does
abbrev pub failing_step : TestPlan → TestMove → Option ℕ
failing_step Apart Merge = None
failing_step Apart Back = Some 1
failing_step Apart Bad = Some 2
failing_step Together Merge = Some 1
failing_step Together Back = None
failing_step Together Bad = Some 1

abbrev pub TestComesTo : TestPlan → TestMove → Option ℕ → Type 0
TestComesTo plan move outcome = failing_step plan move ≡ outcome

-- neither has a group or a difference
abbrev pub test_steep : TestPlan → ℕ
test_steep Apart = 0
test_steep Together = 0

abbrev pub source_with : ℕ → WindowKind → SourceDecl
source_with slack window = record {
  name = codes "a";
  file = codes "a.csv";
  names = codes "x" ∷ [];
  schema = kind.Int ∷ [];
  slack = slack;
  window = window;
}

-- a window of 10 instants
abbrev pub source_a : SourceDecl
source_a = source_with 0 (Time 10)

abbrev pub row : ℕ → ℕ → Item
row stamp value = Row stamp (Int (pos value) ∷ [])

abbrev pub file_of : List Item → Items
file_of list = record { list = list; end = reason.AtEnd }

-- the lines `0,5`, `5,6` and `20`
abbrev pub file_a : Items
file_a = file_of (row 0 5 ∷ row 5 6 ∷ Beat 20 ∷ [])

abbrev pub elem : ℕ → ℕ → ℕ → Elem
elem start end value =
    record { tuple = Int (pos value) ∷ []; span = record { start = start; end = end } }

-- a result
abbrev pub found : ℕ → ℕ → ℕ → Entry
found start end value = Found (elem start end value)
