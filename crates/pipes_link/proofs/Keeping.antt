-- What the ends of a link keep through calls on either, and how whole lists grow.
use Rattle.std.proofs.Common.{◌≡◌, ◌≤◌, List, [], ◌∷◌, ◌++◌, refl, ap, sym, ◌∙◌, append_assoc}
use Rattle.std.proofs.Common.{arith}
use Rattle.pipes_link.specs.declared.TheConstants.{MOST_ROOM}
use Rattle.pipes_link.specs.declared.outlet.Outlet.{Outlet}
use Rattle.pipes_link.specs.declared.inlet.Inlet.{Inlet}
use Rattle.pipes_link.specs.Ends.{sent, spare, room_of, taken, ready, AreEnds, SameOutlet}
use Rattle.pipes_link.specs.Ends.{SameInlet}
use Rattle.pipes_link.specs.Whole.{OutletStands, InletStands}

module _ {T : Type 0} where
  -- two ends stay the ends of one link, whatever calls are made on each
  pub ends_keep : (o o' : Outlet T) (i i' : Inlet T) → SameOutlet o o' → SameInlet i i'
      → AreEnds o i → AreEnds o' i'
  ends_keep o o' i i' so si h = (
    si.0.0 ∙ (h.0 ∙ sym so.0.0),
    si.0.1 ∙ (h.1 ∙ sym so.0.1),
    si.0.2 ∙ (h.2 ∙ sym so.0.2),
    si.0.3
        ∙ (h.3 ∙ sym so.0.3),
  )

  pub same_outlet_self : (o : Outlet T) → SameOutlet o o
  same_outlet_self o = ((refl, refl, refl, refl), refl)

  pub same_outlet_trans : (a b c : Outlet T) → SameOutlet a b → SameOutlet b c → SameOutlet a c
  same_outlet_trans a b c p q = (
    (q.0.0 ∙ p.0.0, q.0.1 ∙ p.0.1, q.0.2 ∙ p.0.2, q.0.3 ∙ p.0.3),
    q.1
        ∙ p.1,
  )

  pub same_inlet_self : (i : Inlet T) → SameInlet i i
  same_inlet_self i = ((refl, refl, refl, refl), refl)

  pub same_inlet_trans : (a b c : Inlet T) → SameInlet a b → SameInlet b c → SameInlet a c
  same_inlet_trans a b c p q = (
    (q.0.0 ∙ p.0.0, q.0.1 ∙ p.0.1, q.0.2 ∙ p.0.2, q.0.3 ∙ p.0.3),
    q.1
        ∙ p.1,
  )

  -- a link has a place, and at most so many
  pub room_of-bounds : (o : Outlet T) → (1 ≤ room_of o) × (room_of o ≤ MOST_ROOM)
  room_of-bounds o = (o.has_places, o.bounded)

  -- an outlet knows of no more free places than the link has
  pub spare_within : (o : Outlet T) → spare o ≤ room_of o
  spare_within o = let counts = o.producer.counts in omega (arith, counts.0, counts.1, counts.2)

  pub ready_within : (i : Inlet T) → ready i ≤ MOST_ROOM
  ready_within i = let counts = i.consumer.counts in let bounded = i.bounded in omega
      (arith, counts, bounded)

  -- a message that is put in comes after the whole list
  pub put_stands : (before whole : List T) (o o' : Outlet T) (message : T)
      → sent o' ≡ sent o ++ message ∷ [] → OutletStands before o whole
      → OutletStands before o' (whole ++ message ∷ [])
  put_stands before whole o o' message more stands =
      ap (λ xs. before ++ xs) more ∙ (sym (append_assoc before (sent o) (message ∷ []))
      ∙ ap (λ xs. xs ++ message ∷ []) stands)

  -- a message that is taken comes after the whole list
  pub take_stands : (before whole : List T) (i i' : Inlet T) (message : T)
      → taken i' ≡ taken i ++ message ∷ [] → InletStands before i whole
      → InletStands before i' (whole ++ message ∷ [])
  take_stands before whole i i' message more stands =
      ap (λ xs. before ++ xs) more ∙ (sym (append_assoc before (taken i) (message ∷ []))
      ∙ ap (λ xs. xs ++ message ∷ []) stands)
