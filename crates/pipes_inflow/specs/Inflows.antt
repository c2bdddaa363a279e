-- A feeder that reads its source: which arrivals it took, and what it sent of them.
use Rattle.std.specs.Prelude.{◌≡◌, ◌≢◌, ◌⊎◌, ◌<◌, ◌≤◌, ◌+◌, ℕ, List, [], ◌∷◌, ◌++◌, length, Option}
use Rattle.std.specs.Prelude.{Some, None, true, false, ⊤}
use Rattle.pipes_window.specs.declared.item.Item.{Item}
use Rattle.pipes_link.specs.Ends.{SameOutlet, spare}
use Rattle.pipes_split.specs.Knowledge.{seat_knows}
use Rattle.pipes_parcel.specs.declared.parcel.Fed.{Fed}
use Rattle.pipes_packer.specs.Packing.{ArePacked}
use Rattle.pipes_packer.specs.Packed.{SamePacker}
use Rattle.pipes_query.specs.declared.query.SourceDecl.{SourceDecl}
use Rattle.pipes_feed.specs.Items.{stamp_in}
use Rattle.pipes_feed.specs.declared.reason.Reason.{Reason}
use Rattle.pipes_feed.specs.declared.reason.Reason.TheVariants as reason
use Rattle.pipes_feed.specs.declared.reader.Next.{Next}
use Rattle.pipes_feed.specs.declared.reader.Next.TheVariants as next
use Rattle.pipes_feeder.specs.declared.feeder.Feeder.{Feeder}
use Rattle.pipes_feeder.specs.Feeding.{messages, FeederStands, FeederHasEnded}
use Rattle.pipes_feeder.specs.Feeding.{FeederEnds, FeederKeeps, FeederTakes, LeavesFewerPending}
use Rattle.pipes_intake.specs.Ahead.{HasTaken, turns_left}
use Rattle.pipes_inflow.specs.declared.inflow.Inflow.{Inflow}
use Rattle.pipes_inflow.specs.declared.inflow.Turn.{Turn}
use Rattle.pipes_inflow.specs.declared.inflow.Turn.TheVariants.{Moved, NoRoom, Ended}

-- the messages, sent and pending, are those of the first of these arrivals
pub record HasPart (gone : List Fed) (taken : List Item) (f : Feeder) : Type 0 where
  pub first : List Item
  pub rest : List Item
  pub all : taken ≡ first ++ rest
  pub packed : ArePacked (seat_knows f.packer.seat) f.packer.arriving.slack
      f.packer.arriving.window.kind first (messages gone f)

-- What the feeder stands for: these arrivals, which were all once it has finished. Where memory was
-- wanting, it has the messages of the first of them.
pub record Feeds (gone : List Fed) (taken : List Item) (f : Feeder) : Type 0 where
  pub going : f.packer.failed ≡ false → f.finished ≡ false → FeederStands gone taken f
  pub finished : f.finished ≡ true → (f.packer.failed ≡ false) × FeederHasEnded gone taken f
  pub failed : f.packer.failed ≡ true → HasPart gone taken f

-- It ended for this reason: the arrivals that were read end so, or memory was wanting for their
-- messages. At the end of its source the feeder has finished.
pub record HasEndedFor (f : Inflow) (why : Reason) : Type 0 where
  pub cause : (f.ahead.next ≡ next.Ended why)
      ⊎ ((why ≡ reason.Memory) × (f.feeder.packer.failed ≡ true))
  pub whole : why ≡ reason.AtEnd
      → (f.feeder.packer.failed ≡ false) × (f.feeder.finished ≡ true)

-- Of what the source had left at first these arrivals were taken, and the feeder stands for them;
-- `gone` went through the links before its own.
pub record InflowStands (s : SourceDecl) (first left : Option (List ℕ)) (before now : ℕ)
    (gone : List Fed) (taken : List Item) (f : Inflow) : Type 0 where
  pub ahead : HasTaken s.schema s.slack first left before now f.ahead taken
  pub counted : f.taken ≡ length taken
  pub few : f.taken + turns_left f.ahead ≤ 4000002
  pub slack_is : f.feeder.packer.arriving.slack ≡ s.slack
  pub kind_is : f.feeder.packer.arriving.window.kind ≡ s.window
  pub feeds : Feeds gone taken f.feeder
  pub going : f.ended ≡ None → f.feeder.packer.failed ≡ false
  pub ended : (why : Reason) → f.ended ≡ Some why → HasEndedFor f why

-- it stands for some source and arrivals
pub record StandsForSome (left : Option (List ℕ)) (now : ℕ) (f : Inflow) : Type 0 where
  pub s : SourceDecl
  pub first : Option (List ℕ)
  pub before : ℕ
  pub gone : List Fed
  pub taken : List Item
  pub stands : InflowStands s first left before now gone taken f

-- it has not been finished before its end
abbrev pub MayTurn : Inflow → Type 0
MayTurn f = f.ended ≡ None → f.feeder.finished ≡ false

-- What a turn came to: an arrival was taken; no room was found; or it ended, for this reason, where
-- out of memory may have come at one more arrival.
abbrev pub TurnsTo : SourceDecl → Option (List ℕ) → Option (List ℕ) → ℕ → ℕ → List Fed → Inflow
    → List Item → Turn → Type 0
TurnsTo s first left before now gone f taken Moved =
    (item : Item) × InflowStands s first left before now gone (taken ++ item ∷ []) f
TurnsTo s first left before now gone f taken NoRoom =
    InflowStands s first left before now gone taken f × (spare f.feeder.outlet ≡ 0)
TurnsTo s first left before now gone f taken (Ended why) =
    (more : List Item) × InflowStands s first left before now gone (taken ++ more) f
    × (f.ended ≡ Some why) × ((more ≡ []) ⊎ (why ≡ reason.Memory))

abbrev pub IsAnEnd : Turn → Type 0
IsAnEnd turn = (why : Reason) × (turn ≡ Ended why)

-- A turn that took an arrival left fewer of them. One that found no room left as many, and fewer
-- messages that wait for room.
abbrev pub LeavesLess : Inflow → Inflow → Turn → Type 0
LeavesLess old new Moved = turns_left new.ahead < turns_left old.ahead
LeavesLess old new NoRoom =
    (new.ahead ≡ old.ahead) × LeavesFewerPending old.feeder new.feeder
LeavesLess old new (Ended why) = ⊤

-- the same seat, which knows no less, and the same link
pub record KeepsLink (old new : Inflow) : Type 0 where
  pub packer : SamePacker old.feeder.packer new.feeder.packer
  pub link : SameOutlet old.feeder.outlet new.feeder.outlet

-- the stamp of the arrival that was read ahead, where it has not ended
abbrev pub stamp_ahead : Option Reason → Next → Option ℕ
stamp_ahead None (next.Item item) = Some (stamp_in item)
stamp_ahead None (next.Ended why) = None
stamp_ahead (Some why) ahead = None

-- ---- for private functions
-- an arrival that was read was fed, or memory was wanting
abbrev pub Passes : Inflow → Inflow → Item → Turn → Type 0
Passes old new arrival Moved = (new.ahead ≡ old.ahead) × (new.taken ≡ old.taken + 1)
    × (new.ended ≡ old.ended) × FeederTakes old.feeder new.feeder arrival
Passes old new arrival NoRoom = ⊥
Passes old new arrival (Ended why) = (new.ahead ≡ old.ahead) × (new.taken ≡ old.taken + 1)
    × (new.ended ≡ Some why) × (why ≡ reason.Memory) × FeederKeeps old.feeder new.feeder
    × (new.feeder.packer.failed ≡ true)

-- The feeder finished where this was the end of its source; else nothing changed. Why it ends.
abbrev pub FinishesFor : Feeder → Feeder → Reason → Reason → Type 0
FinishesFor old new given why =
    ((given ≢ reason.AtEnd) × (why ≡ given) × (new ≡ old))
    ⊎ (((given ≡ reason.AtEnd) × (why ≡ given) × FeederEnds old new)
    ⊎ ((why ≡ reason.Memory) × FeederKeeps old new × (new.packer.failed ≡ true)))

-- it ended, where no arrival was left for this reason
abbrev pub Ends : Inflow → Inflow → Reason → Turn → Type 0
Ends old new given turn = (why : Reason) × (turn ≡ Ended why) × (new.ended ≡ Some why)
    × (new.ahead ≡ old.ahead) × (new.taken ≡ old.taken)
    × FinishesFor old.feeder new.feeder given why
