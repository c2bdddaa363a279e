-- What an operator owes: of the lists that it took, by port, and the list that it sent.
use Rattle.std.specs.Prelude.{◌≡◌, ℕ, zero, suc, ◌≤◌, ◌<◌, ◌+◌, min, Bool, false, cond, eqb, nat_le}
use Rattle.std.specs.Prelude.{nat_lt, List, [], ◌∷◌, ◌++◌, count_by, ⊤}
use Rattle.std.specs.List.{All, Contains}
use Rattle.pipes_time.specs.Interval.{closed}
use Rattle.pipes_tuple.specs.declared.value.Value.{Value}
use Rattle.pipes_tuple.specs.declared.value.Kind.{Kind}
use Rattle.pipes_tuple.specs.Kinds.{Fits}
use Rattle.pipes_tuple.specs.Bag.{SameBag}
use Rattle.pipes_stream.specs.declared.Elem.{Elem}
use Rattle.pipes_stream.specs.declared.message.Message.{Message}
use Rattle.pipes_stream.specs.declared.message.Message.TheVariants as message
use Rattle.pipes_stream.specs.Snapshot.{snapshot}
use Rattle.pipes_stream.specs.Lists.{CanFollow, run, start_of_list, Valid, beat, HasEnded, elements}

-- a list of messages for each port
abbrev pub Lists : Type 0
Lists = ℕ → List Message

-- What an operator is there for, which no call changes.
pub record Task : Type 0 where
  -- how many ports it has, and the kinds of the tuples at each
  pub ports : ℕ
  pub takes : ℕ → List Kind
  -- the kinds of the tuples that it sends
  pub gives : List Kind
  -- what it makes of the bags of tuples that are valid at its ports at an instant
  pub meaning : (ℕ → List (List Value)) → List (List Value)
  -- whether it may keep its heartbeat below those of its ports, until elements that it took end
  pub lags : Bool

abbrev pub no_messages : Lists
no_messages port = []

-- the lists with one more message at the end of one of them
abbrev pub with_message : Lists → ℕ → Message → Lists
with_message taken port m k = cond (eqb k port) (taken k ++ m ∷ []) (taken k)

abbrev pub MessageFits : Message → List Kind → Type 0
MessageFits (message.Elem e) kinds = Fits e.tuple kinds
MessageFits _ kinds = ⊤

-- The message may come to the port: the port's list stays valid, and the tuple fits.
pub record CanTake (task : Task) (taken : Lists) (port : ℕ) (m : Message) : Type 0 where
  pub follows : CanFollow (run start_of_list (taken port)) m
  pub fits : MessageFits m (task.takes port)

-- The operator took the message: it put messages after those that were there, and stands for the
-- longer lists from now on.
pub record Takes (task : Task) (Old New : Lists → List Message → Type 0) (port : ℕ) (m : Message)
    (before now : List Message) : Type 0 where
  pub sent : List Message
  pub appended : now ≡ before ++ sent
  pub stands : (taken : Lists) (earlier : List Message) → Old taken earlier
      → CanTake task taken port m → New (with_message taken port m) (earlier ++ sent)

-- the least heartbeat of the first ports
abbrev pub least : ℕ → Lists → ℕ
least zero taken = closed
least (suc n) taken = min (beat (taken n)) (least n taken)

-- the elements at the first ports
abbrev pub all_elements : ℕ → Lists → List Elem
all_elements zero taken = []
all_elements (suc n) taken = all_elements n taken ++ elements (taken n)

-- the least of h and the starts of the elements that end at h or later
abbrev pub floor : ℕ → List Elem → ℕ
floor h [] = h
floor h (e ∷ es) = min (cond (nat_le h e.span.end) e.span.start h) (floor h es)

-- the element's span is a part of the span of one of these
abbrev pub IsCovered : List Elem → Elem → Type 0
IsCovered taken e = (d : Elem) × Contains taken d × (d.span.start ≤ e.span.start)
    × (e.span.end ≤ d.span.end)

-- how many of the elements end after h
abbrev pub open_count : ℕ → List Elem → ℕ
open_count h es = count_by (λ e. nat_lt h e.span.end) es

-- Lawful: below the heartbeat of what was sent, its snapshots are the operator's meaning on the
-- snapshots of what was taken.
pub record Lawful (task : Task) (taken : Lists) (sent : List Message) (held : ℕ) : Type 0 where
  -- nothing sent starts below the heartbeat of what was sent before it
  pub valid : Valid sent
  pub fits : All (λ e. Fits e.tuple task.gives) (elements sent)
  pub answer : (t : ℕ) → t < beat sent
      → SameBag (snapshot (elements sent) t)
      (task.meaning (λ port. snapshot (elements (taken port)) t))
  -- the heartbeat is the least of the ports', or is kept back by no more than the elements that
  -- reach there
  pub below : beat sent ≤ least task.ports taken
  pub above : floor (least task.ports taken) (all_elements task.ports taken) ≤ beat sent
  pub prompt : task.lags ≡ false → beat sent ≡ least task.ports taken
  pub ends : ((port : ℕ) → port < task.ports → HasEnded (taken port)) → HasEnded sent × (held ≡ 0)
  -- it holds no more elements than can still meet others
  pub few : held ≤ open_count (least task.ports taken) (all_elements task.ports taken)
  pub spans : All (IsCovered (all_elements task.ports taken)) (elements sent)
