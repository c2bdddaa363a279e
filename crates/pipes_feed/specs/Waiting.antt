-- Items that wait for those that may still come before them.
use Rattle.std.specs.Prelude.{ℕ, List, nat_le, nat_lt, filter}
use Rattle.std.specs.List.Sorted.{IsNonDecreasingBy}
use Rattle.pipes_window.specs.declared.item.Item.{Item}
use Rattle.pipes_feed.specs.Items.{stamp_in}

-- the stamps never fall
abbrev pub ArrivalsRise : List Item → Type 0
ArrivalsRise items = IsNonDecreasingBy stamp_in items

-- those with a stamp up to this one, and those with a greater one
abbrev pub up_to : ℕ → List Item → List Item
up_to t items = filter (λ i. nat_le (stamp_in i) t) items

abbrev pub past : ℕ → List Item → List Item
past t items = filter (λ i. nat_lt t (stamp_in i)) items
