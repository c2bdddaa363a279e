-- Only private functions need these: messages that are appended without the heartbeats that say
-- nothing more.
use Rattle.std.specs.Prelude.{◌≡◌, ℕ, List, [], ◌∷◌, ◌++◌}
use Rattle.pipes_time.specs.Interval.{closed}
use Rattle.pipes_stream.specs.declared.message.Message.{Message}
use Rattle.pipes_stream.specs.declared.message.Message.TheVariants as message
use Rattle.pipes_stream.specs.Progress.{Progress}
use Rattle.pipes_stream.specs.Lists.{run, ValidFrom}
use Rattle.pipes_node.specs.Says.{SaysFrom}

-- the heartbeat that a message brings
abbrev pub brought : Message → ℕ
brought (message.Elem e) = e.span.start
brought (message.Beat at) = at
brought message.End = closed

-- With `now` in place of `old` and `more` after it nothing else is said, wherever the heartbeat
-- after `old` is `level`; the heartbeat is `next` then.
abbrev pub MergedAll : List Message → ℕ → List Message → List Message → ℕ → Type 0
MergedAll old level more now next =
    (p : Progress) → (run p old).beat ≡ level → ValidFrom p (old ++ more)
    → SaysFrom p (old ++ more) now × ((run p now).beat ≡ next)

abbrev pub MergedOne : List Message → ℕ → Message → List Message → ℕ → Type 0
MergedOne old level m now next = MergedAll old level (m ∷ []) now next
