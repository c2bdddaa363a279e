-- The arrivals of a source's bytes, line by line, up to the first line that is refused or past a
-- limit; and its items, which are the arrivals in the order of their stamps.
use Rattle.std.specs.Prelude.{ℕ, ◌+◌, List, [], ◌∷◌, ◌++◌, ◌==◌, nat_le, nat_lt, filter}
use Rattle.std.specs.Prelude.{if◌then◌else◌}
use Rattle.pipes_tuple.specs.declared.value.Kind.{Kind}
use Rattle.pipes_window.specs.declared.item.Item.{Item}
use Rattle.pipes_window.specs.declared.item.Item.TheVariants.{Row, Beat}
use Rattle.pipes_line.specs.Lines.{Line, size_of, lines_of}
use Rattle.pipes_feed.specs.declared.reason.RowWhy.TheVariants as why
use Rattle.pipes_feed.specs.declared.reason.Reason.{Reason}
use Rattle.pipes_feed.specs.declared.reason.Reason.TheVariants as reason
use Rattle.pipes_feed.specs.Reached.{Reached, source_start, after_line, after_item}
use Rattle.pipes_feed.specs.declared.line.Verdict.{Verdict}
use Rattle.pipes_feed.specs.declared.line.Verdict.TheVariants.{Pass, Give, Refuse, Limit}
use Rattle.pipes_feed.specs.Judged.{judge}

-- a list of items or arrivals, and how it ends
pub record Items : Type 0 where
  pub list : List Item
  pub end : Reason

-- nothing is left
abbrev pub no_more : Reason → Items
no_more reason = record { list = []; end = reason }

-- one more before the others
abbrev pub put : Item → Items → Items
put item items = record { list = item ∷ items.list; end = items.end }

-- the stamp of an item
abbrev pub stamp_in : Item → ℕ
stamp_in (Row stamp tuple) = stamp
stamp_in (Beat stamp) = stamp

-- what a line of this size gives, before what the lines after it give
abbrev pub by_verdict : Reached → ℕ → (Reached → Items) → Verdict → Items
by_verdict reached size rest Pass = rest (after_line reached size)
by_verdict reached size rest (Give item) = put item (rest (after_item reached size item))
by_verdict reached size rest (Refuse refusal) = no_more (reason.Row (reached.lines + 1) refusal)
by_verdict reached size rest Limit = no_more (reason.Limit (reached.lines + 1))

-- where no line is left: a source without line 1 has no header
abbrev pub end_after : Reached → Reason
end_after reached = if reached.lines == 0 then reason.Row 1 why.Header else reason.AtEnd

-- the arrivals of these lines, which come after others
unfoldable pub arrivals_from : List Kind → ℕ → Reached → List Line → Items
arrivals_from kinds slack reached [] = no_more (end_after reached)
arrivals_from kinds slack reached (line ∷ lines) =
    by_verdict reached (size_of line) (λ reached. arrivals_from kinds slack reached lines)
    (judge kinds slack reached line)

-- the arrivals of a source with columns of these kinds, this slack and these bytes, in file order
abbrev pub arrivals_of : List Kind → ℕ → List ℕ → Items
arrivals_of kinds slack bytes = arrivals_from kinds slack source_start (lines_of bytes)

-- with the item after those whose stamps are no greater, and before the others
abbrev pub placed_item : Item → List Item → List Item
placed_item item items =
    filter (λ i. nat_le (stamp_in i) (stamp_in item)) items
    ++ item ∷ filter (λ i. nat_lt (stamp_in item) (stamp_in i)) items

-- each of the arrivals in turn, placed among those before it
abbrev pub ordered_after : List Item → List Item → List Item
ordered_after items [] = items
ordered_after items (item ∷ arrivals) = ordered_after (placed_item item items) arrivals

-- the arrivals in the order of their stamps, those of one stamp in file order
abbrev pub in_order : List Item → List Item
in_order arrivals = ordered_after [] arrivals

-- with the same end
abbrev pub ordered : Items → Items
ordered arrivals = record { list = in_order arrivals.list; end = arrivals.end }

-- the items of a source: its arrivals in order
abbrev pub items_of : List Kind → ℕ → List ℕ → Items
items_of kinds slack bytes = ordered (arrivals_of kinds slack bytes)
