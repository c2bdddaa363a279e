-- What contracts see of the two ends of a link. Each end counts by what it has seen of the other,
-- which may be old.
use Rattle.std.specs.Prelude.{◌≡◌, ℕ, ◌≤◌, List, length}
use mathlib.Core.List.{IsPrefix}
use Rattle.rtrb.specs.Ring as ring
use Rattle.pipes_link.specs.declared.outlet.Outlet.{Outlet}
use Rattle.pipes_link.specs.declared.inlet.Inlet.{Inlet}

module _ {T : Type 0} where
  -- every message that was put into the link, the first one first
  abbrev pub sent : Outlet T → List T
  sent o = ring.sent o.producer

  -- the free places that the outlet knows of
  abbrev pub spare : Outlet T → ℕ
  spare o = ring.known_free o.producer

  -- the places of the link
  abbrev pub room_of : Outlet T → ℕ
  room_of o = ring.producer_capacity o.producer

  -- every message that was taken from the link, the first one first
  abbrev pub taken : Inlet T → List T
  taken i = ring.received i.consumer

  -- the messages that the inlet knows to wait, the oldest first
  abbrev pub known : Inlet T → List T
  known i = ring.known_items i.consumer

  abbrev pub ready : Inlet T → ℕ
  ready i = length (known i)

  -- the two ends of one link
  abbrev pub AreEnds : Outlet T → Inlet T → Type 0
  AreEnds o i = ring.IsPair o.producer i.consumer

  -- an outlet of the same link: it has the same inlet, and the link has as many places
  abbrev pub SameOutlet : Outlet T → Outlet T → Type 0
  SameOutlet old new = ring.SameProducer old.producer new.producer

  -- an inlet of the same link
  abbrev pub SameInlet : Inlet T → Inlet T → Type 0
  SameInlet old new = ring.SameConsumer old.consumer new.consumer

  -- a look at the other end: it puts nothing in, and forgets no free place
  abbrev pub OutletLooks : Outlet T → Outlet T → Type 0
  OutletLooks old new = (sent new ≡ sent old) × (spare old ≤ spare new)

  -- a look at the other end: it takes nothing, and forgets no message that waits
  abbrev pub InletLooks : Inlet T → Inlet T → Type 0
  InletLooks old new = (taken new ≡ taken old) × IsPrefix (known old) (known new)
      × (ready old ≤ ready new)
