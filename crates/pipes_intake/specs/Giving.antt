-- What a source gives to the plan: messages, turn by turn.
use Rattle.std.specs.Prelude.{◌≡◌, ℕ, ◌≤◌, ◌<◌, true, false, List, [], ◌∷◌, ◌++◌, map, Option}
use Rattle.std.specs.Prelude.{if◌then◌else◌}
use Rattle.std.specs.Prelude.{Some, None, ⊤}
use Rattle.std.specs.List.{All}
use Rattle.pipes_time.specs.Interval.{horizon}
use Rattle.pipes_tuple.specs.declared.value.Kind.{Kind}
use Rattle.pipes_stream.specs.declared.message.Message.{Message}
use Rattle.pipes_stream.specs.declared.message.Message.TheVariants as message
use Rattle.pipes_stream.specs.Progress.{Progress}
use Rattle.pipes_stream.specs.Snapshot.{snapshot}
use Rattle.pipes_stream.specs.Lists.{run, start_of_list, after, beat, elements, CanFollow}
use Rattle.pipes_stream.specs.Lists.{HasEnded}
use Rattle.pipes_stream.specs.Lawful.{MessageFits}
use Rattle.pipes_window.specs.declared.item.Item.{Item}
use Rattle.pipes_window.specs.Windows.{in_window, known, window_beat}
use Rattle.pipes_feed.specs.declared.reason.Reason.TheVariants as reason
use Rattle.pipes_feed.specs.declared.reader.Next.TheVariants as next
use Rattle.pipes_feed.specs.Items.{in_order}
use Rattle.pipes_feed.specs.Released.{released}
use Rattle.pipes_feed.specs.Ahead.{ItemFits}
use Rattle.pipes_arrivals.specs.Arriving.{Arriving, HasArrived}
use Rattle.pipes_query.specs.declared.query.SourceDecl.{SourceDecl}
use Rattle.pipes_intake.specs.declared.intake.Step.{Step}
use Rattle.pipes_intake.specs.declared.intake.Turned.{Turned}
use Rattle.pipes_intake.specs.declared.intake.Turned.TheVariants.{Gave, Stopped}
use Rattle.pipes_intake.specs.declared.intake.Intake.{Intake}
use Rattle.pipes_intake.specs.Ahead.{HasTaken, turns_left, turn_of}

-- the messages of a step: its elements, and then its last one
abbrev pub messages_of : Step → List Message
messages_of step = map message.Elem step.elems.items ++ step.last ∷ []

-- the messages may come one after another, and their tuples fit
abbrev pub MayPassAll : List Kind → Progress → List Message → Type 0
MayPassAll kinds p [] = ⊤
MayPassAll kinds p (m ∷ ms) = (CanFollow p m × MessageFits m kinds)
    × MayPassAll kinds (after p m) ms

-- The source gave this list to its end: at each instant its elements are the rows of these arrivals
-- that are valid then.
pub record HasGiven (s : SourceDecl) (taken : List Item) (list : List Message) : Type 0 where
  pub ended : HasEnded list
  pub rows : (t : ℕ) → t < horizon
      → snapshot (elements list) t ≡ in_window s.window (in_order taken) t

-- The source goes on: of these arrivals it has given what they make known.
pub record GoesOn (s : SourceDecl) (taken : List Item) (list : List Message)
    (arrivals : Arriving) : Type 0 where
  pub slack_is : arrivals.slack ≡ s.slack
  pub kind_is : arrivals.window.kind ≡ s.window
  pub arrived : HasArrived taken arrivals
  pub fit : All (ItemFits s.schema) taken
  pub going : (run start_of_list list).ended ≡ false
  pub low : beat list ≤ window_beat s.window (released s.slack taken) false
  pub given : elements list ≡ known s.window (released s.slack taken)

-- Of what the source had left at first these arrivals were taken, and this list was given of them.
-- It goes on, or it has come to the end of its source.
pub record IntakeStands (s : SourceDecl) (first left : Option (List ℕ)) (before now : ℕ)
    (intake : Intake) (taken : List Item) (list : List Message) : Type 0 where
  pub ahead : HasTaken s.schema s.slack first left before now intake.ahead taken
  pub goes_on : intake.ended ≡ false → GoesOn s taken list intake.arrivals
  pub over : intake.ended ≡ true → HasGiven s taken list
      × (intake.ahead.next ≡ next.Ended reason.AtEnd)

-- it stands for some source, arrivals and list
pub record StandsForSome (left : Option (List ℕ)) (now : ℕ) (intake : Intake) : Type 0 where
  pub s : SourceDecl
  pub first : Option (List ℕ)
  pub before : ℕ
  pub taken : List Item
  pub list : List Message
  pub stands : IntakeStands s first left before now intake taken list

-- What a turn came to: it gave messages, which may come next, or the arrivals have stopped for this
-- reason, which is not the end of the source.
abbrev pub TurnsTo : SourceDecl → Option (List ℕ) → Option (List ℕ) → ℕ → ℕ → Intake → List Item
    → List Message → Turned → Type 0
TurnsTo s first left before now intake taken list (Gave step) = (more : List Item)
    × IntakeStands s first left before now intake (taken ++ more) (list ++ messages_of step)
    × MayPassAll s.schema (run start_of_list list) (messages_of step)
TurnsTo s first left before now intake taken list (Stopped why) =
    IntakeStands s first left before now intake taken list
    × (intake.ahead.next ≡ next.Ended why) × (why ≡ reason.AtEnd → ⊥)

-- what is left was given, where it had not come to the end of its source
abbrev pub Finishes : SourceDecl → List Item → List Message → Option Step → Type 0
Finishes s taken list None = HasGiven s taken list
Finishes s taken list (Some step) = HasGiven s taken (list ++ messages_of step)
    × MayPassAll s.schema (run start_of_list list) (messages_of step)

-- when it has its next turn: never, once it has come to the end of its source
abbrev pub next_turn_of : Intake → ℕ
next_turn_of intake = if intake.ended then 18446744073709551615 else turn_of intake.ahead.next

-- how many turns it has left at most
abbrev pub turns_to_come : Intake → ℕ
turns_to_come intake = if intake.ended then 0 else turns_left intake.ahead

-- a turn that gave something left fewer
abbrev pub LeavesFewer : Intake → Intake → Turned → Type 0
LeavesFewer old new (Gave step) = turns_to_come new < turns_to_come old
LeavesFewer old new (Stopped why) = ⊤
