-- Which of a source's arrivals were taken.
use Rattle.std.specs.Prelude.{◌≡◌, List, ◌∷◌, ◌++◌, Option, Some, None}
use Rattle.pipes_window.specs.declared.item.Item.{Item}
use Rattle.pipes_feed.specs.declared.reason.Reason.{Reason}
use Rattle.pipes_feed.specs.declared.reason.Reason.TheVariants as reason
use Rattle.pipes_feed.specs.declared.reader.Next.{Next}
use Rattle.pipes_feed.specs.declared.reader.Next.TheVariants as next
use Rattle.pipes_feed.specs.Items.{Items}

-- these were taken, and others may follow them
abbrev pub ArePart : Items → List Item → Type 0
ArePart whole taken = (rest : List Item) × (whole.list ≡ taken ++ rest)

-- All were taken, and they end so; more of them may lie ahead of a failed read and of out of
-- memory.
abbrev pub EndsSo : Items → List Item → Reason → Type 0
EndsSo whole taken reason.AtEnd = (whole.list ≡ taken) × (whole.end ≡ reason.AtEnd)
EndsSo whole taken (reason.Row line why) = (whole.list ≡ taken) × (whole.end ≡ reason.Row line why)
EndsSo whole taken (reason.Limit line) = (whole.list ≡ taken) × (whole.end ≡ reason.Limit line)
EndsSo whole taken reason.Failed = ArePart whole taken
EndsSo whole taken reason.Memory = ArePart whole taken

-- these were taken, this comes next, and the rest is ahead of the reader
abbrev pub ComesThen : Items → List Item → Next → Option Items → Type 0
ComesThen whole taken (next.Item item) None = ⊥
ComesThen whole taken (next.Item item) (Some rest) =
    (whole.list ≡ taken ++ item ∷ rest.list) × (whole.end ≡ rest.end)
ComesThen whole taken (next.Ended reason) ahead = EndsSo whole taken reason
