-- What the timeline of a difference takes in. Only private functions use these.
use Rattle.std.specs.Prelude.{ℕ, zero, suc, ◌≡◌, ◌≤◌, ◌+◌, cond, nat_lt, List, [], ◌∷◌, ◌++◌}
use Rattle.pipes_stream.specs.declared.Elem.{Elem}
use Rattle.pipes_stream.specs.declared.message.Message.{Message}
use Rattle.pipes_stream.specs.declared.message.Message.TheVariants as message
use Rattle.pipes_stream.specs.Progress.{Progress}
use Rattle.pipes_stream.specs.Lists.{CanFollow, after}
use Rattle.pipes_timeline.specs.declared.timeline.Timeline.{Timeline}
use Rattle.pipes_stream.specs.Weights.{weigh}
use Rattle.pipes_timeline.specs.Rules.{Arrival}
use Rattle.pipes_timeline.specs.Ends.{AddsArrival}
use Rattle.pipes_timeline.specs.Feeding.{LineFed}
use Rattle.pipes_minus.specs.declared.counts.Counts.{Counts}
use Rattle.pipes_minus.specs.declared.counts.Difference.{Difference}
use Rattle.pipes_minus.specs.Differences.{minus_rule, MinusTells}

abbrev pub CountLine : Type 0
CountLine = Timeline Counts Difference

abbrev pub LineTook : CountLine → ℕ → ℕ → List Arrival → List Elem → Type 0
LineTook line low now fed sent = LineFed minus_rule MinusTells line low now fed sent

abbrev pub arrives_before : ℕ → Arrival → ℕ
arrives_before now s = cond (nat_lt s.1.span.start now) 1 0

abbrev pub arrives_by : ℕ → Arrival → ℕ
arrives_by now s = cond (nat_lt now s.1.span.start) 0 1

-- the timeline took in one element
pub record TakesIn (old new : CountLine) (s : Arrival) : Type 0 where
  pub good : (low now : ℕ) (fed : List Arrival) (sent : List Elem) → now ≤ s.1.span.start
      → LineTook old low now fed sent → LineTook new low s.1.span.start (fed ++ s ∷ []) sent

-- What waited and starts up to an instant was taken in.
pub record TookIn (old new : CountLine) (waits left : List Arrival) (h low now upon : ℕ)
    (fed : List Arrival) (sent : List Elem) : Type 0 where
  pub more : List Arrival
  pub upto : upon ≤ h
  pub line : LineTook new low upon (fed ++ more) sent
  pub split : (f : Arrival → ℕ) → weigh f waits ≡ weigh f more + weigh f left
  pub later : weigh (arrives_before upon) left ≡ 0

pub record Feeds (old new : CountLine) (waits left : List Arrival) (h : ℕ) : Type 0 where
  pub good : (low now : ℕ) (fed : List Arrival) (sent : List Elem) → now ≤ h
      → LineTook old low now fed sent → weigh (arrives_before now) waits ≡ 0
      → (upon : ℕ) × TookIn old new waits left h low now upon fed sent

-- all of it
pub record FeedsAll (old new : CountLine) (waits left : List Arrival) (h : ℕ) : Type 0 where
  pub good : (low now : ℕ) (fed : List Arrival) (sent : List Elem) → now ≤ h
      → LineTook old low now fed sent → weigh (arrives_before now) waits ≡ 0
      → TookIn old new waits left h low now h fed sent
  pub later : weigh (arrives_by h) left ≡ 0

-- the watch of the port saw the message
abbrev pub WatchSees : ℕ → Message → Progress → Progress → Progress → Progress → Type 0
WatchSees zero m l r left right = (CanFollow l m → left ≡ after l m) × (right ≡ r)
WatchSees (suc port) m l r left right = (left ≡ l) × (CanFollow r m → right ≡ after r m)

-- an element waits from now on
abbrev pub Waits : ℕ → Message → List Arrival → List Arrival → Type 0
Waits port (message.Elem e) old new = AddsArrival (port, e) old new
Waits port (message.Beat at) old new = new ≡ old
Waits port message.End old new = new ≡ old
