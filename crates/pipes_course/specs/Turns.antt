-- The turns of an inline run: a source gives its next arrival, or it has none and ends.
use Rattle.std.specs.Prelude.{ℕ, zero, suc, ◌+◌, List, [], ◌∷◌, ◌++◌, map, drop, nat_le}
use Rattle.std.specs.Prelude.{if◌then◌else◌, slice_get, unwrap_or}
use Rattle.pipes_window.specs.declared.item.Item.{Item}
use Rattle.pipes_feed.specs.declared.reason.Reason.{Reason}
use Rattle.pipes_feed.specs.Items.{Items, stamp_in}

-- Sources go by their numbers.
pub data Turn : Type 0 where
  Takes : ℕ → Item → Turn
  Ends : ℕ → Reason → Turn

-- all turns of a source: one for each arrival, and the end
abbrev pub turns_of : ℕ → Items → List Turn
turns_of source arrivals = map (Takes source) arrivals.list ++ Ends source arrivals.end ∷ []

-- the turns of each source, from this number on
abbrev pub turns_from : ℕ → List Items → List (List Turn)
turns_from source [] = []
turns_from source (a ∷ others) = turns_of source a ∷ turns_from (source + 1) others

-- a source without a next arrival goes before any other, and those with one go by its stamp
abbrev pub rank : Turn → ℕ
rank (Takes source item) = stamp_in item + 1
rank (Ends source why) = 0

-- a turn goes behind those that rank below it, and `others` behind what is left of them
abbrev pub behind_lower : Turn → (List Turn → List Turn) → List Turn → List Turn
behind_lower turn others [] = turn ∷ others []
behind_lower turn others (y ∷ ys) =
    if nat_le (rank turn) (rank y) then turn ∷ others (y ∷ ys) else y ∷ behind_lower turn others ys

-- Two lists of turns, each in its own order: of the two that stand first the lower one goes, and
-- the left one where they are equal.
abbrev pub merged_turns : List Turn → List Turn → List Turn
merged_turns [] ys = ys
merged_turns (x ∷ xs) ys = behind_lower x (merged_turns xs) ys

-- the turns that are left of all sources, in the order in which `rest` makes them
abbrev pub rest_turns : List (List Turn) → List Turn
rest_turns [] = []
rest_turns (left ∷ others) = merged_turns left (rest_turns others)

-- those that are left of one source
abbrev pub left_of : List (List Turn) → ℕ → List Turn
left_of left source = unwrap_or (slice_get left source) []

-- what is left once a source has made so many of its turns
abbrev pub left_after : ℕ → ℕ → List (List Turn) → List (List Turn)
left_after n source [] = []
left_after n zero (left ∷ others) = drop n left ∷ others
left_after n (suc source) (left ∷ others) = left ∷ left_after n source others
