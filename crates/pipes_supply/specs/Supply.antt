-- What the messages of a feeder give to a plan while no split is known: each part is its element.
use Rattle.std.specs.Prelude.{◌≡◌, ℕ, ◌≤◌, ◌<◌, List, ◌++◌, map, None}
use Rattle.std.specs.List.{All}
use Rattle.pipes_time.specs.Interval.{horizon}
use Rattle.pipes_tuple.specs.declared.value.Kind.{Kind}
use Rattle.pipes_stream.specs.declared.message.Message.{Message}
use Rattle.pipes_stream.specs.declared.message.Message.TheVariants as message
use Rattle.pipes_stream.specs.Snapshot.{snapshot}
use Rattle.pipes_stream.specs.Lists.{start_of_list, beat, elements, HasEnded}
use Rattle.pipes_window.specs.declared.item.Item.{Item}
use Rattle.pipes_window.specs.Windows.{IsWindow, in_window}
use Rattle.pipes_feed.specs.Items.{in_order}
use Rattle.pipes_feed.specs.Ahead.{ItemFits}
use Rattle.pipes_arrivals.specs.Arriving.{Arrive}
use Rattle.pipes_split.specs.Views.{last_epoch}
use Rattle.pipes_split.specs.Knowledge.{Knowledge}
use Rattle.pipes_parcel.specs.declared.parcel.Fed.{Fed}
use Rattle.pipes_parcel.specs.declared.parcel.Fed.TheVariants.{Part, Beat, End}
use Rattle.pipes_parcel.specs.Feds.{parts_of}
use Rattle.pipes_packer.specs.Packing.{ArePacked, ArePackedWhole}
use Rattle.pipes_query.specs.declared.query.SourceDecl.{SourceDecl}
use Rattle.pipes_intake.specs.Giving.{MayPassAll}

-- the messages without their epochs
abbrev pub message_of : Fed → Message
message_of (Part p) = message.Elem p.elem
message_of (Beat at) = message.Beat at
message_of End = message.End

abbrev pub messages_of : List Fed → List Message
messages_of feds = map (λ f. message_of f) feds

-- no split is known
abbrev pub NoSplit : Knowledge → Type 0
NoSplit k = (epoch : ℕ) → epoch ≤ last_epoch → k.split epoch ≡ None

-- The messages may come one after another, each part of them is of the first epoch, and the tuples
-- are of these kinds.
pub record MayAllCome (kinds : List Kind) (feds : List Fed) : Type 0 where
  pub first : All (λ p. p.epoch ≡ 0) (parts_of feds)
  pub pass : MayPassAll kinds start_of_list (messages_of feds)

-- Below the heartbeat the elements are the rows of these arrivals that are valid, in the order of
-- their stamps.
abbrev pub AreRows : SourceDecl → List Item → List Fed → Type 0
AreRows s arrivals feds = (t : ℕ) → t < horizon → t < beat (messages_of feds)
    → snapshot (elements (messages_of feds)) t ≡ in_window s.window (in_order arrivals) t

-- these messages, the first of those of a source whose arrivals are these
pub record AreSupplied (s : SourceDecl) (arrivals : List Item) (feds : List Fed) : Type 0 where
  pub may : MayAllCome s.schema feds
  pub rows : AreRows s arrivals feds

-- the arrivals of a run of the source
pub record MayBeGiven (s : SourceDecl) (arrivals : List Item) : Type 0 where
  pub window : IsWindow s.window
  pub come : Arrive s.slack arrivals
  pub fit : All (ItemFits s.schema) arrivals

-- what is taken of the messages of arrivals, whatever arrives after them
abbrev pub SuppliedSoFar : Type 0
SuppliedSoFar =
    (s : SourceDecl) (k : Knowledge) (arrivals more : List Item) (feds rest : List Fed)
    → MayBeGiven s (arrivals ++ more) → NoSplit k
    → ArePacked k s.slack s.window arrivals (feds ++ rest)
    → AreSupplied s (arrivals ++ more) feds

-- what is taken of the messages of a source that has ended, and all of them
abbrev pub SuppliedAtEnd : Type 0
SuppliedAtEnd =
    (s : SourceDecl) (k : Knowledge) (arrivals : List Item) (feds rest : List Fed)
    → MayBeGiven s arrivals → NoSplit k
    → ArePackedWhole k s.slack s.window arrivals (feds ++ rest)
    → AreSupplied s arrivals feds

abbrev pub AllIsEnded : Type 0
AllIsEnded =
    (s : SourceDecl) (k : Knowledge) (arrivals : List Item) (feds : List Fed)
    → MayBeGiven s arrivals → NoSplit k → ArePackedWhole k s.slack s.window arrivals feds
    → HasEnded (messages_of feds)
