-- Whole lists. Where one link has taken another's place, `before` is what went through the links
-- before it: no end keeps it.
use Rattle.std.specs.Prelude.{◌≡◌, List, ◌++◌}
use Rattle.pipes_link.specs.declared.outlet.Outlet.{Outlet}
use Rattle.pipes_link.specs.declared.inlet.Inlet.{Inlet}
use Rattle.pipes_link.specs.Ends.{sent, taken, known}

module _ {T : Type 0} where
  -- with `before`, the outlet stands for everything that was put in
  abbrev pub OutletStands : List T → Outlet T → List T → Type 0
  OutletStands before o whole = before ++ sent o ≡ whole

  -- with `before`, the inlet stands for everything that was taken
  abbrev pub InletStands : List T → Inlet T → List T → Type 0
  InletStands before i whole = before ++ taken i ≡ whole

  -- what the inlet's whole list lacks of the outlet's is what waits
  abbrev pub LacksWaiting : Outlet T → Inlet T → Type 0
  LacksWaiting o i = (before all got : List T) → OutletStands before o all
      → InletStands before i got → got ++ known i ≡ all

  -- both old ends stood for one list; with it before them, both new ends stand for it too
  abbrev pub KeepsWhole : Outlet T → Inlet T → Outlet T → Inlet T → Type 0
  KeepsWhole o i o' i' = (before whole : List T) → OutletStands before o whole
      → InletStands before i whole × OutletStands whole o' whole × InletStands whole i' whole
