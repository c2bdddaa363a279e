-- What the commands of a script ask for, with what is known of the inputs at each.
use Rattle.std.specs.Prelude.{ℕ, max, List, [], ◌∷◌, ◌++◌, Option, Some, None, slice_get}
use Rattle.pipes_query.specs.declared.query.SourceDecl.{SourceDecl}
use Rattle.pipes_query.specs.declared.script.Command.{Command}
use Rattle.pipes_query.specs.declared.script.Command.TheVariants.{Feed, Rest, Await, Migrate, Drain}
use Rattle.pipes_told.specs.Asks.{Inputs, Taken, Awaited, Ask, Migrates, Drains}
use Rattle.pipes_course.specs.Steps.{ScriptStep, Made, Asked}
use Rattle.pipes_course.specs.Known.{inputs_beat, inputs_end}

-- what is known after steps of an inline run
abbrev pub inputs_after : List ScriptStep → List SourceDecl → Inputs
inputs_after past sources = Taken (inputs_beat past sources) (inputs_end past sources)

-- the greatest heartbeat that was awaited, once this command was one of them
abbrev pub awaited_by : ℕ → Command → ℕ
awaited_by low (Feed source n) = low
awaited_by low Rest = low
awaited_by low (Await h) = max low h
awaited_by low (Migrate file) = low
awaited_by low Drain = low

module _ {Derivation : Type 0} where
  -- a migration by a derivation, where there is one
  abbrev pub migration : Inputs → Option Derivation → List (Ask Derivation)
  migration inputs None = []
  migration inputs (Some derivation) = Migrates derivation inputs ∷ []

  -- what a command asks for, where these are the derivations of the script's files
  abbrev pub asks_of : List Derivation → Inputs → Command → List (Ask Derivation)
  asks_of moves inputs (Feed source n) = []
  asks_of moves inputs Rest = []
  asks_of moves inputs (Await h) = []
  asks_of moves inputs (Migrate file) = migration inputs (slice_get moves file)
  asks_of moves inputs Drain = Drains inputs ∷ []

  -- what the steps of an inline run ask for, behind earlier ones
  abbrev pub asks_after : List SourceDecl → List Derivation → List ScriptStep → List ScriptStep
      → List (Ask Derivation)
  asks_after sources moves past [] = []
  asks_after sources moves past (Made turn ∷ ss) =
      asks_after sources moves (past ++ Made turn ∷ []) ss
  asks_after sources moves past (Asked command ∷ ss) =
      asks_of moves (inputs_after past sources) command ++ asks_after sources moves past ss

  -- what the commands of a threaded run ask for, behind this heartbeat
  abbrev pub asks_awaiting : List Derivation → ℕ → List Command → List (Ask Derivation)
  asks_awaiting moves low [] = []
  asks_awaiting moves low (c ∷ cs) =
      asks_of moves (Awaited low) c ++ asks_awaiting moves (awaited_by low c) cs
