-- What is to be run, and what a run is about.
use Rattle.std.specs.Prelude.{◌≡◌, ℕ, List, [], take}
use Rattle.pipes_window.specs.declared.item.Item.{Item}
use Rattle.pipes_feed.specs.Items.{Items}
use Rattle.pipes_query.specs.declared.query.Query.{Query}
use Rattle.pipes_query.specs.declared.script.Mode.{Mode}
use Rattle.pipes_query.specs.declared.script.Mode.TheVariants.{Inline, Threaded}
use Rattle.pipes_query.specs.declared.script.Command.{Command}
use Rattle.pipes_output.specs.declared.form.Form.{Form}
use Rattle.pipes_told.specs.Asks.{Ask}
use Rattle.pipes_course.specs.Steps.{inline_steps}
use Rattle.pipes_course.specs.Asking.{asks_after, asks_awaiting}
use Rattle.pipes_course.specs.Endings.{Ending, Whole, Stopped, Cut}

-- A query under commands, with the derivations of the script's files.
pub record RunJob (Derivation : Type 0) : Type 0 where
  pub query : Query
  pub commands : List Command
  pub moves : List Derivation
  pub mode : Mode
  pub form : Form

-- What a run was about: its query, the items of each source, and what was asked for.
pub record About (Derivation : Type 0) : Type 0 where
  pub query : Query
  pub items : List (List Item)
  pub asks : List (Ask Derivation)

module _ {Derivation : Type 0} where
  -- all that a job asks for over arrivals as they were met
  abbrev pub asks_in : Mode → RunJob Derivation → List Items → List (Ask Derivation)
  asks_in Inline job arrivals =
      asks_after job.query.sources job.moves [] (inline_steps job.commands arrivals)
  asks_in Threaded job arrivals = asks_awaiting job.moves 0 job.commands

  -- a front of a list
  abbrev pub IsFront : List (Ask Derivation) → List (Ask Derivation) → Type 0
  IsFront asked all = (n : ℕ) × (asked ≡ take n all)

  -- What was asked for before the end: all of it; but a front where a threaded run was stopped, and
  -- where any was cut.
  abbrev pub AreAsked : Mode → Ending → List (Ask Derivation) → List (Ask Derivation) → Type 0
  AreAsked mode Whole all asked = asked ≡ all
  AreAsked Inline (Stopped source why) all asked = asked ≡ all
  AreAsked Threaded (Stopped source why) all asked = IsFront asked all
  AreAsked mode Cut all asked = IsFront asked all
