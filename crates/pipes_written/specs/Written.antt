-- Entries as they are written, over what is the answer at each instant.
use Rattle.std.specs.Prelude.{◌≡◌, ℕ, ◌≤◌, ◌<◌, false, List, ◌∷◌, ◌++◌, map}
use Rattle.std.specs.List.{All}
use Rattle.pipes_time.specs.Interval.{horizon, closed, IsInterval}
use Rattle.pipes_tuple.specs.declared.value.Value.{Value}
use Rattle.pipes_tuple.specs.declared.value.Kind.{Kind}
use Rattle.pipes_tuple.specs.Kinds.{Fits}
use Rattle.pipes_tuple.specs.Bag.{SameBag}
use Rattle.pipes_stream.specs.declared.Elem.{Elem}
use Rattle.pipes_stream.specs.declared.message.Message.{Message}
use Rattle.pipes_stream.specs.Progress.{Progress}
use Rattle.pipes_stream.specs.Snapshot.{snapshot}
use Rattle.pipes_stream.specs.Lists.{run, ValidFrom, elements}
use Rattle.pipes_output.specs.declared.entry.Entry.{Entry}
use Rattle.pipes_output.specs.declared.entry.Entry.TheVariants as entry
use Rattle.pipes_semantics.specs.Written.{results, starts, written_snapshot}
use Rattle.pipes_semantics.specs.Right.{NeverFall}

-- what the answer is at each instant
abbrev pub Answers : Type 0
Answers = ℕ → List (List Value)

-- an interval, and a tuple of these kinds
abbrev pub IsTyped : List Kind → Elem → Type 0
IsTyped kinds e = IsInterval e.span.start e.span.end × Fits e.tuple kinds

-- Entries that were written until the output had come to m: starts and heartbeats never fall, and
-- none is above m; at each heartbeat the results before it are already the answer below it; and
-- below m the results are the answer.
pub record IsWritten (kinds : List Kind) (answer : Answers) (m : ℕ) (entries : List Entry)
    : Type 0 where
  pub bounded : m ≤ closed
  pub rising : NeverFall 0 (starts entries)
  pub behind : All (λ n. n ≤ m) (starts entries)
  pub typed : All (IsTyped kinds) (results entries)
  pub final : (before after : List Entry) (h t : ℕ)
      → entries ≡ before ++ entry.Beat h ∷ after → t < h → t < horizon
      → SameBag (written_snapshot before t) (answer t)
  pub done : (t : ℕ) → t < m → t < horizon → SameBag (written_snapshot entries t) (answer t)

-- a result for each element
abbrev pub results_of : List Message → List Entry
results_of sent = map entry.Result (elements sent)

-- how far the output has come after these messages
abbrev pub level_after : ℕ → List Message → ℕ
level_after m sent = (run (record { beat = m; ended = false }) sent).beat

-- Messages that may be sent to the output once it has come to m: they follow, and with them the
-- results are the answer as far as they come.
pub record Continues (kinds : List Kind) (answer : Answers) (m : ℕ) (entries : List Entry)
    (sent : List Message) : Type 0 where
  pub so_far : Progress
  pub there : so_far.beat ≡ m
  pub valid : ValidFrom so_far sent
  pub fits : All (λ e. Fits e.tuple kinds) (elements sent)
  pub right : (t : ℕ) → m ≤ t → t < level_after m sent → t < horizon
      → SameBag (snapshot (results entries ++ elements sent) t) (answer t)
