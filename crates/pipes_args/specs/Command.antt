-- What the words of a command line command: the name of a command, its positional words, and then
-- options where it takes them.
use Rattle.std.specs.Prelude.{ℕ, List, [], ◌∷◌, ◌-◌, ◌^◌, if◌then◌else◌, Option, Some, None, codes}
use Rattle.std.specs.Prelude.{⊤}
use Rattle.std.specs.Option.{option_map, option_and_then}
use Rattle.std.specs.Str.{bytes_eq}
use Rattle.pipes_time.specs.Interval.{horizon}
use Rattle.pipes_args.specs.declared.command.Command.{Command as Read}
use Rattle.pipes_args.specs.declared.command.Command.TheVariants as read
use Rattle.pipes_args.specs.declared.settings.Settings.{Settings}
use Rattle.pipes_args.specs.Words.{number_in, one_of, two_of, settings_of, AreWorkers}

-- a run, with the names of its query and its script; the making of sources from a seed, so many
-- rows, and their run; an answer, with the name of its query and its instant; a check of the query
-- with this name; or a derivation from the plan of the query, with the names of both
pub data Command : Type 0 where
  Run : List ℕ → List ℕ → Settings → Command
  Make : ℕ → ℕ → Settings → Command
  At : List ℕ → ℕ → Command
  Check : List ℕ → Command
  Derive : List ℕ → List ℕ → Command

-- no word is left over
abbrev pub alone : {A : Type 0} → Option A → List (List ℕ) → Option A
alone command [] = command
alone command (word ∷ rest) = None

abbrev pub run_of : List ℕ → List ℕ → List (List ℕ) → Option Command
run_of query script options = option_map (Run query script) (settings_of options)

abbrev pub make_of : List ℕ → List ℕ → List (List ℕ) → Option Command
make_of seed rows options = option_and_then (λ s. option_and_then
    (λ r. option_map (Make s r) (settings_of options)) (number_in 1 1000000 rows))
    (number_in 0 (2 ^ 64 - 1) seed)

abbrev pub at_of : List ℕ → List ℕ → List (List ℕ) → Option Command
at_of query time = alone (option_map (At query) (number_in 0 (horizon - 1) time))

abbrev pub check_of : List ℕ → List (List ℕ) → Option Command
check_of query = alone (Some (Check query))

abbrev pub derive_of : List ℕ → List ℕ → List (List ℕ) → Option Command
derive_of query derivation = alone (Some (Derive query derivation))

-- a command of one positional word, of what stands after its name
abbrev pub with_one : (List ℕ → List (List ℕ) → Option Command) → List (List ℕ) → Option Command
with_one command words = option_and_then (λ w. command w.0 w.1) (one_of words)

-- the same of two
abbrev pub with_two : (List ℕ → List ℕ → List (List ℕ) → Option Command) → List (List ℕ)
    → Option Command
with_two command words = option_and_then (λ w. command w.0 w.1 w.2) (two_of words)

-- the command with this name, of the words after it
abbrev pub command_named : List ℕ → List (List ℕ) → Option Command
command_named name = if bytes_eq name (codes "run") then with_two run_of else if bytes_eq name
    (codes "make") then with_two make_of else if bytes_eq name (codes "at") then with_two at_of else
    if bytes_eq name (codes "check") then with_one check_of else if bytes_eq name (codes "derive")
    then with_two derive_of else (λ words. None)

abbrev pub command_of : List (List ℕ) → Option Command
command_of [] = None
command_of (name ∷ words) = command_named name words

-- what the code's own command stands for
abbrev pub command_seen : Read → Command
command_seen (read.Run query script settings) = Run query.now script.now settings
command_seen (read.Make seed rows settings) = Make seed rows settings
command_seen (read.At query time) = At query.now time
command_seen (read.Check query) = Check query.now
command_seen (read.Derive query derivation) = Derive query.now derivation.now

-- the workers of a command that has settings
abbrev pub HasWorkers : Read → Type 0
HasWorkers (read.Run query script settings) = AreWorkers settings.workers
HasWorkers (read.Make seed rows settings) = AreWorkers settings.workers
HasWorkers (read.At query time) = ⊤
HasWorkers (read.Check query) = ⊤
HasWorkers (read.Derive query derivation) = ⊤
