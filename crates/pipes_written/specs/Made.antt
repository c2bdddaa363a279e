-- What the calls of an output do.
use Rattle.std.specs.Prelude.{◌≡◌, ℕ, ◌≤◌, ◌+◌, Bool, true, false, List, [], ◌∷◌, ◌++◌, vec_len}
use Rattle.std.specs.Prelude.{vec_capacity, ⊤}
use Rattle.pipes_stream.specs.declared.message.Message.{Message}
use Rattle.pipes_output.specs.declared.entry.Entry.{Entry}
use Rattle.pipes_output.specs.declared.entry.Entry.TheVariants as entry
use Rattle.pipes_written.specs.declared.output.Output.{Output}
use Rattle.pipes_written.specs.Written.{results_of, level_after}

-- a result was made for each element, in order, and the output has come as far as the messages
pub record Made (old new : Output) (sent : List Message) : Type 0 where
  pub entries : new.entries.items ≡ old.entries.items ++ results_of sent
  pub beat : new.beat ≡ level_after old.beat sent

-- these entries were made, and the output has come no further
pub record Adds (old new : Output) (more : List Entry) : Type 0 where
  pub entries : new.entries.items ≡ old.entries.items ++ more
  pub beat : new.beat ≡ old.beat

-- so many more entries can be made without memory
abbrev pub HasRoom : Output → ℕ → Type 0
HasRoom o n = vec_len o.entries + n ≤ vec_capacity o.entries

-- the entry at the end of a run
abbrev pub last_entry : Bool → Entry
last_entry true = entry.Stopped
last_entry false = entry.Ended

-- an entry that tells of a migration: its reply, that it is idle, or that it is over
abbrev pub TellsMove : Entry → Type 0
TellsMove (entry.Result e) = ⊥
TellsMove (entry.Beat h) = ⊥
TellsMove (entry.Accepted number split) = ⊤
TellsMove (entry.Refused command why) = ⊤
TellsMove (entry.Idle number) = ⊤
TellsMove (entry.Over number) = ⊤
TellsMove (entry.Drained inputs output) = ⊥
TellsMove entry.Ended = ⊥
TellsMove entry.Stopped = ⊥

-- the entries of a drain
abbrev pub drained : ℕ → ℕ → List Entry
drained inputs output = entry.Beat output
    ∷ entry.Drained inputs output ∷ []
