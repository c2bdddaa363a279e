-- The items of all sources, each read to its end, one source after another.
use Rattle.std.specs.Prelude.{List, [], ◌∷◌, Result, Ok, Err}
use Rattle.std.specs.Option.{ok_or}
use Rattle.pipes_time.specs.Results.{◌>>=◌}
use Rattle.pipes_edge.specs.Outside.{Names}
use Rattle.pipes_window.specs.declared.item.Item.{Item}
use Rattle.pipes_feed.specs.declared.reason.Reason.{Reason}
use Rattle.pipes_feed.specs.declared.reason.Reason.TheVariants as reason
use Rattle.pipes_feed.specs.Items.{Items, items_of}
use Rattle.pipes_query.specs.declared.query.SourceDecl.{SourceDecl}
use Rattle.pipes_error.specs.Fault.{Fault, Missing, ReadFile, Row, Limit, Memory}

-- All items, where they end after the last line, and else the fault of the line at which they
-- stop. A failed read and being out of memory are no ends of a file's items.
abbrev pub by_end : SourceDecl → List Item → Reason → Result (List Item) Fault
by_end s items reason.AtEnd = Ok items
by_end s items (reason.Row line why) = Err (Row s.name line why)
by_end s items (reason.Limit line) = Err (Limit s.name line)
by_end s items reason.Failed = Err (ReadFile s.file)
by_end s items reason.Memory = Err Memory

abbrev pub up_to_end : SourceDecl → Items → Result (List Item) Fault
up_to_end s items = by_end s items.list items.end

-- the items of one source
abbrev pub source_items : Names → SourceDecl → Result (List Item) Fault
source_items files s = do
  bytes ← ok_or (files s.file) (Missing s.file)
  up_to_end s (items_of s.schema s.slack bytes)

-- the items of each source, in order, or the first fault
abbrev pub whole_items : Names → List SourceDecl → Result (List (List Item)) Fault
whole_items files [] = Ok []
whole_items files (s ∷ ss) = do
  items ← source_items files s
  others ← whole_items files ss
  Ok (items ∷ others)
