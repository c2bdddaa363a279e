-- What a feeder has sent, and what its calls do.
use Rattle.std.specs.Prelude.{◌≡◌, ◌<◌, ◌≤◌, ◌+◌, List, [], ◌∷◌, ◌++◌, length, true, false}
use Rattle.pipes_window.specs.declared.item.Item.{Item}
use Rattle.pipes_window.specs.Items.{item_stamp}
use Rattle.pipes_link.specs.declared.inlet.Inlet.{Inlet}
use Rattle.pipes_link.specs.Ends.{sent, spare, taken, SameOutlet}
use Rattle.pipes_query.specs.declared.query.SourceDecl.{SourceDecl}
use Rattle.pipes_split.specs.Knowledge.{seat_knows}
use Rattle.pipes_parcel.specs.declared.parcel.Fed.{Fed}
use Rattle.pipes_arrivals.specs.Arriving.{floor_of, new_arriving}
use Rattle.pipes_packer.specs.Packed.{HasPacked, HasPackedAll, SamePacker}
use Rattle.pipes_feeder.specs.declared.feeder.Feeder.{Feeder}
use Rattle.pipes_feeder.specs.declared.feeder.OfferRefusal.{OfferRefusal}
use Rattle.pipes_feeder.specs.declared.feeder.OfferRefusal.TheVariants.{Full, Falling, Memory}

-- All messages: those that went through the links before this one, those sent, and those pending.
abbrev pub messages : List Fed → Feeder → List Fed
messages before f = before ++ (sent f.outlet ++ f.pending.items)

-- the feeder stands for these arrivals, and others may follow
abbrev pub FeederStands : List Fed → List Item → Feeder → Type 0
FeederStands before arrivals f = HasPacked arrivals (messages before f) f.packer

-- these arrivals were all
abbrev pub FeederHasEnded : List Fed → List Item → Feeder → Type 0
FeederHasEnded before arrivals f = HasPackedAll arrivals (messages before f) f.packer

-- a feeder of the source that took nothing
pub record IsFresh (s : SourceDecl) (before : List Fed) (f : Feeder) : Type 0 where
  pub stands : FeederStands before [] f
  pub arriving : f.packer.arriving ≡ new_arriving s.slack s.window
  pub unfailed : f.packer.failed ≡ false
  pub begins : f.finished ≡ false

-- It stands for what it stood for: the same arrivals and messages, and its seat knows the same.
pub record FeederStays (old new : Feeder) : Type 0 where
  pub arriving : new.packer.arriving ≡ old.packer.arriving
  pub failed : new.packer.failed ≡ old.packer.failed
  pub finished : new.finished ≡ old.finished
  pub knows : seat_knows new.packer.seat ≡ seat_knows old.packer.seat
  pub messages_kept : sent new.outlet ++ new.pending.items ≡ sent old.outlet ++ old.pending.items

-- fewer messages are pending, by as many as there were places that it knew of
abbrev pub LeavesFewerPending : Feeder → Feeder → Type 0
LeavesFewerPending old new =
    length new.pending.items + spare old.outlet ≤ length old.pending.items

-- the messages that were taken from the link were appended, in order
pub record HandsOver (old new : Inlet Fed) (before after : List Fed) : Type 0 where
  pub more : List Fed
  pub appended : after ≡ before ++ more
  pub takes : taken new ≡ taken old ++ more

-- It took no arrival: messages may have been sent that were pending.
pub record FeederKeeps (old new : Feeder) : Type 0 where
  pub packer : SamePacker old.packer new.packer
  pub messages_kept : sent new.outlet ++ new.pending.items ≡ sent old.outlet ++ old.pending.items
  pub link : SameOutlet old.outlet new.outlet
  pub finished : new.finished ≡ old.finished

-- It took one more arrival.
pub record FeederTakes (old new : Feeder) (arrival : Item) : Type 0 where
  pub packer : SamePacker old.packer new.packer
  pub unfailed : new.packer.failed ≡ false
  pub link : SameOutlet old.outlet new.outlet
  pub finished : new.finished ≡ old.finished
  pub stands : (before : List Fed) (arrivals : List Item) → FeederStands before arrivals old
      → FeederStands before (arrivals ++ arrival ∷ []) new

-- It ended.
pub record FeederEnds (old new : Feeder) : Type 0 where
  pub packer : SamePacker old.packer new.packer
  pub unfailed : new.packer.failed ≡ false
  pub link : SameOutlet old.outlet new.outlet
  pub finished : new.finished ≡ true
  pub stands : (before : List Fed) (arrivals : List Item) → FeederStands before arrivals old
      → FeederHasEnded before arrivals new

-- why an arrival was not taken
abbrev pub OfferRefused : Feeder → Feeder → Item → OfferRefusal → Type 0
OfferRefused old new arrival (Full back) =
    (back ≡ arrival) × (spare new.outlet ≡ 0) × (new.packer ≡ old.packer)
OfferRefused old new arrival (Falling stamp last) =
    (stamp ≡ item_stamp arrival) × (last ≡ floor_of old.packer.arriving) × (stamp < last)
    × (new ≡ old)
OfferRefused old new arrival Memory = new.packer.failed ≡ true
