-- What a run takes of its sources.
use Rattle.std.specs.Prelude.{◌≡◌, ◌⊎◌, ℕ, zero, suc, ◌+◌, ◌≤◌, List, [], ◌∷◌, map, take, length}
use Rattle.std.specs.Prelude.{true, Some, slice_get, ⊤}
use Rattle.std.specs.List.{All}
use Rattle.pipes_window.specs.declared.item.Item.{Item}
use Rattle.pipes_feed.specs.declared.reason.Reason.{Reason}
use Rattle.pipes_feed.specs.declared.reason.Reason.TheVariants as reason
use Rattle.pipes_feed.specs.Items.{Items, in_order}
use Rattle.pipes_query.specs.declared.script.Mode.{Mode}
use Rattle.pipes_query.specs.declared.script.Mode.TheVariants.{Inline, Threaded}
use Rattle.pipes_query.specs.declared.script.Command.{Command}
use Rattle.pipes_course.specs.Steps.{ScriptStep, is_fault, inline_steps, taken_from}
use Rattle.pipes_course.specs.Endings.{Ending, Whole, Stopped, Cut, ending_of}

-- the first so many arrivals of each source, none where there is no number
abbrev pub firsts : List ℕ → List Items → List (List Item)
firsts numbers [] = []
firsts [] (a ∷ others) = [] ∷ firsts [] others
firsts (n ∷ ns) (a ∷ others) = take n a.list ∷ firsts ns others

-- the items that a run is about: the arrivals that were taken, in order
abbrev pub items_taken : List ℕ → List Items → List (List Item)
items_taken taken arrivals = map in_order (firsts taken arrivals)

-- ---- arrivals as a run met them

-- a source whose read failed has the arrivals that were taken, and that end
abbrev pub failed_at : ℕ → List ℕ → List Items → List Items
failed_at source taken [] = []
failed_at source [] (a ∷ others) = a ∷ others
failed_at zero (n ∷ ns) (a ∷ others) =
    record { list = take n a.list; end = reason.Failed } ∷ others
failed_at (suc source) (n ∷ ns) (a ∷ others) = a ∷ failed_at source ns others

-- the arrivals as a run met them that ended so: in all other runs they are the sources' own
abbrev pub met_by : ℕ → Reason → List ℕ → List Items → List Items
met_by source reason.AtEnd taken arrivals = arrivals
met_by source (reason.Row line why) taken arrivals = arrivals
met_by source reason.Failed taken arrivals = failed_at source taken arrivals
met_by source (reason.Limit line) taken arrivals = arrivals
met_by source reason.Memory taken arrivals = arrivals

abbrev pub met : Ending → List ℕ → List Items → List Items
met Whole taken arrivals = arrivals
met (Stopped source why) taken arrivals = met_by source why taken arrivals
met Cut taken arrivals = arrivals

-- ---- how many

-- how many arrivals steps take of each source, from this number on
abbrev pub taken_by : List ScriptStep → ℕ → List Items → List ℕ
taken_by steps number [] = []
taken_by steps number (a ∷ others) =
    length (taken_from number steps) ∷ taken_by steps (number + 1) others

-- a number for each source, which has as many arrivals
abbrev pub AreFronts : List Items → List ℕ → Type 0
AreFronts [] [] = ⊤
AreFronts (a ∷ others) (n ∷ ns) = (n ≤ length a.list) × AreFronts others ns
AreFronts _ _ = ⊥

-- every source is at its end, and all was taken
pub record AreAll (arrivals : List Items) (taken : List ℕ) : Type 0 where
  pub ends : All (λ a. a.end ≡ reason.AtEnd) arrivals
  pub taken_is : taken ≡ map (λ a. length a.list) arrivals

-- the source with this number ends so, with a fault, and all its arrivals were taken
pub record StopsAt (source : ℕ) (why : Reason) (arrivals : List Items) (taken : List ℕ) : Type 0
  where
    pub of_source : Items
    pub found : slice_get arrivals source ≡ Some of_source
    pub ends : of_source.end ≡ why
    pub fault : is_fault why ≡ true
    pub taken_is : slice_get taken source ≡ Some (length of_source.list)

-- the steps end so, and this is what they take
pub record AreTakenBy (steps : List ScriptStep) (arrivals : List Items) (ending : Ending)
    (taken : List ℕ) : Type 0 where
  pub ending_is : ending_of steps ≡ ending
  pub taken_is : taken ≡ taken_by steps 0 arrivals

-- What was taken up to a fault: in an inline run what the commands take, else any front.
abbrev pub AreTakenTo : Mode → List Command → List Items → Ending → List ℕ → Type 0
AreTakenTo Inline commands arrivals ending taken =
    AreTakenBy (inline_steps commands arrivals) arrivals ending taken
AreTakenTo Threaded commands arrivals ending taken = AreFronts arrivals taken

-- What may have been taken of arrivals as they were met. Of a run that was cut before anything was
-- taken there may be no numbers.
abbrev pub AreTaken : Mode → List Command → List Items → Ending → List ℕ → Type 0
AreTaken mode commands arrivals Whole taken = AreAll arrivals taken
AreTaken mode commands arrivals (Stopped source why) taken =
    StopsAt source why arrivals taken
    × AreTakenTo mode commands arrivals (Stopped source why) taken
AreTaken mode commands arrivals Cut taken = (taken ≡ []) ⊎ AreFronts arrivals taken
