-- What is sent once a heartbeat has risen.
use Rattle.std.specs.Prelude.{ℕ, Bool, nat_lt, if◌then◌else◌, List, [], ◌∷◌, ◌++◌, map}
use Rattle.pipes_stream.specs.declared.Elem.{Elem}
use Rattle.pipes_stream.specs.declared.message.Message.{Message}
use Rattle.pipes_stream.specs.declared.message.Message.TheVariants as message
use Rattle.pipes_sweep.specs.Waiting.{due}

-- how far the list has come, where its elements don't show it: the heartbeat before was `known`
abbrev pub progress_after : ℕ → ℕ → Bool → List Message
progress_after known now ended =
    if ended then message.End ∷ []
    else (if nat_lt known now then message.Beat now ∷ [] else [])

-- the elements that are due at the heartbeat, and then how far that is
abbrev pub sent_at : ℕ → ℕ → Bool → List Elem → List Message
sent_at known now ended waiting =
    map message.Elem (due now waiting) ++ progress_after known now ended
