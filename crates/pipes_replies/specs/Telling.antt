-- What single calls tell, for all that was told before.
use Rattle.std.specs.Prelude.{◌≡◌, ◌⊎◌, ℕ, ◌≤◌, ◌<◌, List, [], ◌∷◌, map, Bool, true, false}
use Rattle.std.specs.Prelude.{Option, None, option_to_list, ◌++◌, ◌+◌, IfSome}
use Rattle.std.specs.List.{All}
use Rattle.pipes_time.specs.Interval.{closed}
use Rattle.pipes_tuple.specs.declared.value.Kind.{Kind}
use Rattle.pipes_stream.specs.declared.Elem.{Elem}
use Rattle.pipes_plan.specs.declared.plan.Plan.{Plan}
use Rattle.pipes_output.specs.declared.entry.Entry.{Entry}
use Rattle.pipes_output.specs.declared.entry.Entry.TheVariants as entry
use Rattle.pipes_output.specs.declared.entry.RefusedWhy.{RefusedWhy}
use Rattle.pipes_derivation.specs.declared.derivation.Derivation.{Derivation}
use Rattle.pipes_told.specs.Asks.{Ask, Migrates, Drains, Taken}
use Rattle.pipes_told.specs.Told.{Told, after_entry, after_entries}
use Rattle.pipes_told.specs.Replies.{AcceptsMove, IsRefusal}
use Rattle.pipes_told.specs.Pacing.{least_output, MayFollow, Follow}
use Rattle.pipes_told.specs.Steep.{steep}
use Rattle.pipes_replies.specs.declared.replies.Replies.{Replies}
use Rattle.pipes_replies.specs.declared.replies.Paced.{Paced}
use Rattle.pipes_replies.specs.declared.stage.Stage.TheVariants.{Calm}
use Rattle.pipes_replies.specs.Leading.{target, ComesTo}
use Rattle.pipes_replies.specs.Keeping.{Keeps, KeepsPaced}

abbrev pub AllTold : Type 0
AllTold = Told Plan Derivation

-- the next command asks for a migration, where the inputs are known so
abbrev pub NextMove : AllTold → Derivation → ℕ → ℕ → Type 0
NextMove told d inputs end =
    (later : List (Ask Derivation)) × (told.asks ≡ Migrates d (Taken inputs end) ∷ later)

abbrev pub NextDrain : AllTold → ℕ → ℕ → Type 0
NextDrain told inputs end =
    (later : List (Ask Derivation)) × (told.asks ≡ Drains (Taken inputs end) ∷ later)

-- the output has come as far as it must, whatever plans there were
abbrev pub HasReached : List Elem → AllTold → ℕ → ℕ → Type 0
HasReached spans told inputs output =
    (least_output steep spans told inputs ≤ inputs)
    × (least_output steep spans told inputs ≤ output)

-- A migration by the next command is refused for this.
abbrev pub Refuses : Replies → Replies → RefusedWhy → Entry → Type 0
Refuses old new why e =
    (schemas : List (List Kind)) (spans : List Elem) (told : AllTold) (d : Derivation)
    (inputs output end : ℕ) → KeepsPaced old told inputs output → NextMove told d inputs end
    → HasReached spans told inputs output → IsRefusal (ComesTo schemas) told d why
    → MayFollow (ComesTo schemas) steep spans told e
    × KeepsPaced new (after_entry target told e) inputs output

-- A migration by the next command is accepted, with this split above every end that is known.
abbrev pub Accepts : Replies → Replies → ℕ → Entry → Type 0
Accepts old new split e =
    (schemas : List (List Kind)) (spans : List Elem) (told : AllTold) (d : Derivation)
    (inputs output end : ℕ) → KeepsPaced old told inputs output → NextMove told d inputs end
    → HasReached spans told inputs output → ComesTo schemas told.plan d None → end < split
    → MayFollow (ComesTo schemas) steep spans told e
    × Keeps new (after_entry target told e) inputs output

-- Once the inputs and the output have come this far, these entries follow, and each migration was
-- told to be idle and over exactly where it is so.
abbrev pub Paces : Replies → Replies → ℕ → ℕ → List Entry → Type 0
Paces old new inputs output entries =
    (schemas : List (List Kind)) (spans : List Elem) (told : AllTold) (before behind : ℕ)
    → Keeps old told before behind → before ≤ inputs → behind ≤ output
    → Follow target (ComesTo schemas) steep spans told entries
    × KeepsPaced new (after_entries target told entries) inputs output

-- what is told, in order
abbrev pub told_in : Paced → List Entry
told_in p = option_to_list p.idle ++ option_to_list p.over

-- that the migration with this number is over, after that it is idle where that wasn't told before
abbrev pub over_entries : Bool → ℕ → List Entry
over_entries true number = entry.Over number ∷ []
over_entries false number = entry.Idle number ∷ entry.Over number ∷ []

-- that it is idle, where that wasn't told before
abbrev pub idle_entries : Bool → ℕ → List Entry
idle_entries true number = []
idle_entries false number = entry.Idle number ∷ []

-- Results that start at or above the heartbeat of the output may follow, and tell nothing.
abbrev pub TellsResults : Replies → List Elem → Type 0
TellsResults r elems =
    (schemas : List (List Kind)) (spans : List Elem) (told : AllTold) (inputs output : ℕ)
    → Keeps r told inputs output
    → All (λ e. (output ≤ e.span.start) × (e.span.start < closed)) elems
    → Follow target (ComesTo schemas) steep spans told (map entry.Result elems)
    × (after_entries target told (map entry.Result elems) ≡ told)

-- The heartbeat of the output and what a drain tells may follow where the next command is one.
abbrev pub TellsDrain : Replies → ℕ → ℕ → Type 0
TellsDrain r inputs output =
    (schemas : List (List Kind)) (spans : List Elem) (told : AllTold) (end : ℕ)
    → KeepsPaced r told inputs output → NextDrain told inputs end
    → HasReached spans told inputs output
    → Follow target (ComesTo schemas) steep spans told
    (entry.Beat output ∷ entry.Drained inputs output ∷ [])
    × KeepsPaced r (after_entries target told
    (entry.Beat output ∷ entry.Drained inputs output ∷ [])) inputs output

-- The last entry may follow where nothing more is asked for, and the inputs have ended.
abbrev pub TellsEnd : Replies → Type 0
TellsEnd r =
    (schemas : List (List Kind)) (spans : List Elem) (told : AllTold) (inputs output : ℕ)
    → KeepsPaced r told inputs output → inputs ≡ closed → told.asks ≡ []
    → MayFollow (ComesTo schemas) steep spans told entry.Ended
    × MayFollow (ComesTo schemas) steep spans told entry.Stopped

-- ---- what calls do to the numbers, whatever was told before

-- how many commands had a reply, and the last split, are as before; and none is in progress where
-- none was
pub record NumbersStay (old new : Replies) : Type 0 where
  pub commands : new.commands ≡ old.commands
  pub last : new.last ≡ old.last
  pub calm : old.stage ≡ Calm → new.stage ≡ Calm

-- one more had a reply, and else all is as before
pub record CountsOne (old new : Replies) : Type 0 where
  pub commands : new.commands ≡ old.commands + 1
  pub last : new.last ≡ old.last
  pub stage : new.stage ≡ old.stage

-- what is told is that a migration is idle, and that one is over
pub record ArePaces (p : Paced) : Type 0 where
  pub idle : IfSome p.idle (λ e. (number : ℕ) × (e ≡ entry.Idle number))
  pub over : IfSome p.over (λ e. (number : ℕ) × (e ≡ entry.Over number))
