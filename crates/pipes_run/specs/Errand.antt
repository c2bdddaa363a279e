-- What the words of a call are for.
use Rattle.std.specs.Prelude.{ℕ, List, Result, Ok, Err}
use Rattle.std.specs.Option.{ok_or}
use Rattle.pipes_output.specs.declared.form.Form.{Form}
use Rattle.pipes_args.specs.Command as args
use Rattle.pipes_args.specs.Command.{Command, command_of}
use Rattle.pipes_args.specs.declared.settings.Mode.{Mode}
use Rattle.pipes_args.specs.declared.settings.Mode.TheVariants.{Inline, Threaded}
use Rattle.pipes_error.specs.Fault.{Fault, Words, Unbuilt}
use Rattle.pipes_time.specs.Results.{◌>>=◌}

-- What is to be done with files, whoever does it: a run, with the names of its query and its script
-- and the form of what it writes; an answer, with the name of its query and its instant; a check of
-- the query with this name; or a derivation from the plan of the query, with the names of both.
pub data Errand : Type 0 where
  Run : List ℕ → List ℕ → Form → Errand
  At : List ℕ → ℕ → Errand
  Check : List ℕ → Errand
  Derive : List ℕ → List ℕ → Errand

-- a run whose sources the calling thread turns is served
abbrev pub turned_by : Mode → Errand → Result Errand Fault
turned_by Inline errand = Ok errand
turned_by Threaded errand = Err Unbuilt

-- what a command is for, where it is served; a run writes the same with any number of workers
abbrev pub errand_for : Command → Result Errand Fault
errand_for (args.Run query script settings) =
    turned_by settings.mode (Run query script settings.form)
errand_for (args.Make seed rows settings) = Err Unbuilt
errand_for (args.At query time) = Ok (At query time)
errand_for (args.Check query) = Ok (Check query)
errand_for (args.Derive query derivation) = Ok (Derive query derivation)

-- what the words are for, or why there is nothing
abbrev pub errand_in : List (List ℕ) → Result Errand Fault
errand_in words = ok_or (command_of words) Words >>= errand_for
