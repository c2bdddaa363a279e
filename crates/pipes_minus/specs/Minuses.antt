-- What a difference stands for.
use Rattle.std.specs.Prelude.{ℕ, ◌≡◌, ◌<◌, ◌+◌, ◌&&◌, false, cond, eqb, nat_lt, List}
use Rattle.std.specs.List.{All}
use Rattle.pipes_tuple.specs.Kinds.{Fits}
use Rattle.pipes_stream.specs.declared.Elem.{Elem}
use Rattle.pipes_stream.specs.declared.message.Message.{Message}
use Rattle.pipes_stream.specs.Lists.{run, start_of_list, Valid, elements}
use Rattle.pipes_stream.specs.Lawful.{Lists, least}
use Rattle.pipes_stream.specs.Weights.{weigh}
use Rattle.pipes_timeline.specs.Rules.{Arrival}
use Rattle.pipes_timeline.specs.Stands.{TimelineStands}
use Rattle.pipes_minus.specs.declared.minus.Minus.{Minus}
use Rattle.pipes_minus.specs.Differences.{minus_rule, MinusTells}
use Rattle.pipes_minus.specs.Feeds.{arrives_by}

-- an element's weight, if it came at the port
abbrev pub at_port : ℕ → (Elem → ℕ) → Arrival → ℕ
at_port port f s = cond (eqb s.0 port) (f s.1) 0

-- The timeline has taken in what starts up to the least heartbeat, and the rest waits.
pub record MinusStands (m : Minus) (taken : Lists) (sent : List Message) : Type 0 where
  pub going : m.failed ≡ false
  pub taken_valid : (port : ℕ) → port < 2 → Valid (taken port)
  pub taken_fits : (port : ℕ) → port < 2 → All (λ e. Fits e.tuple m.schema) (elements (taken port))
  pub left_is : m.left ≡ run start_of_list (taken 0)
  pub right_is : m.right ≡ run start_of_list (taken 1)
  pub fed : List Arrival
  pub split : (port : ℕ) (f : Elem → ℕ) → port < 2 → weigh f (elements (taken port))
      ≡ weigh (at_port port f) fed + weigh (at_port port f) m.waits
  pub ports : weigh (λ s. cond (nat_lt s.0 2) 0 1) fed + weigh (λ s. cond (nat_lt s.0 2) 0 1)
      m.waits
      ≡ 0
  pub later : weigh (arrives_by (least 2 taken)) m.waits ≡ 0
  pub line : TimelineStands minus_rule MinusTells m.line (least 2 taken)
      (m.left.ended && m.right.ended) fed sent
