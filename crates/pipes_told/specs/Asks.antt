-- The commands of a run that want a reply, and what is known of its inputs at each.
use Rattle.std.specs.Prelude.{ℕ, List, [], ◌∷◌, ⊤}

-- What is known of the inputs at a command. In an inline run it is the heartbeat of the inputs, and
-- the greatest end that the items taken so far fix, 0 where they fix none; in a threaded run the
-- greatest heartbeat that was awaited.
pub data Inputs : Type 0 where
  Taken : ℕ → ℕ → Inputs
  Awaited : ℕ → Inputs

-- a migrate command with its derivation, or a drain command
pub data Ask (Derivation : Type 0) : Type 0 where
  Migrates : Derivation → Inputs → Ask Derivation
  Drains : Inputs → Ask Derivation

module _ {Derivation : Type 0} where
  -- the next command is a migrate command, and its derivation is so
  abbrev pub NextMigrates : (Derivation → Type 0) → List (Ask Derivation) → Type 0
  NextMigrates P [] = ⊥
  NextMigrates P (Migrates derivation inputs ∷ later) = P derivation
  NextMigrates P (Drains inputs ∷ later) = ⊥

  -- the next command is a drain command
  abbrev pub NextDrains : List (Ask Derivation) → Type 0
  NextDrains [] = ⊥
  NextDrains (Migrates derivation inputs ∷ later) = ⊥
  NextDrains (Drains inputs ∷ later) = ⊤

  -- what is known of the inputs at the next command is so
  abbrev pub NextInputs : (Inputs → Type 0) → List (Ask Derivation) → Type 0
  NextInputs P [] = ⊥
  NextInputs P (Migrates derivation inputs ∷ later) = P inputs
  NextInputs P (Drains inputs ∷ later) = P inputs
