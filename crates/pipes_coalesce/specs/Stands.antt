-- What a Coalesce stands for, and what its calls do.
use Rattle.std.specs.Prelude.{ℕ, ◌≡◌, ◌≤◌, ◌<◌, ◌+◌, ◌⊎◌, Bool, true, false, cond, nat_lt, ◌&&◌}
use Rattle.std.specs.Prelude.{max, min, List, [], ◌∷◌, ◌++◌, length, ⊤, ◌↔◌, IsTrue}
use Rattle.pipes_time.specs.Interval.{closed, IsInterval}
use Rattle.pipes_tuple.specs.declared.value.Value.{Value}
use Rattle.pipes_stream.specs.declared.Elem.{Elem}
use Rattle.pipes_stream.specs.declared.message.Message.{Message}
use Rattle.pipes_stream.specs.declared.message.Message.TheVariants as message
use Rattle.pipes_stream.specs.Lists.{CanFollow, after, run, start_of_list, Valid, beat, elements}
use Rattle.pipes_stream.specs.Lists.{HasEnded}
use Rattle.pipes_stream.specs.Weights.{weigh}
use Rattle.pipes_coalesce.specs.Tests.{if_so, starts_below, starts_above, starts_by}
use Rattle.pipes_coalesce.specs.Tests.{starts_elsewhere, ends_above, ends_at, ends_elsewhere}
use Rattle.pipes_coalesce.specs.Tests.{is_no_interval, touching}
use Rattle.pipes_coalesce.specs.Filed.{has_tuple, FirstElsewhere}
use Rattle.pipes_coalesce.specs.Merging.{Bags}
use Rattle.pipes_coalesce.specs.Merged.{Merged}
use Rattle.pipes_coalesce.specs.declared.merge.Coalesce.{Coalesce}
use Rattle.pipes_coalesce.specs.declared.merge.Side.{Side}
use Rattle.pipes_coalesce.specs.declared.merge.Side.TheVariants as side

-- an old element ends at or below the split, and a fresh one starts at or above it
abbrev pub EndsBy : ℕ → Message → Type 0
EndsBy split (message.Elem e) = e.span.end ≤ split
EndsBy split (message.Beat at) = ⊤
EndsBy split message.End = ⊤

abbrev pub StartsFromSplit : ℕ → Message → Type 0
StartsFromSplit split (message.Elem e) = split ≤ e.span.start
StartsFromSplit split (message.Beat at) = ⊤
StartsFromSplit split message.End = ⊤

abbrev pub lone_from : List Elem → ℕ → ℕ
lone_from [] s = closed
lone_from (e ∷ es) s = s

-- The heartbeat: the least of the old side's, of the start of the old elements that wait for a
-- partner, and of the greater of the split and the fresh side's.
abbrev pub now_of : Coalesce → ℕ
now_of c = min c.old_watch.beat
    (min (lone_from c.lone c.lone_start) (max c.split c.fresh_watch.beat))

abbrev pub held_of : Coalesce → ℕ
held_of c = length c.olds + (length c.lone + (length c.partners + length c.later))

-- The sent list is the old one before the split and the fresh one from it on, for all lists for
-- which the Coalesce stands.
abbrev pub IsMergedFor : Coalesce → (List Message → List Message → List Message → Type 0) → Type 0
IsMergedFor c Stands =
    (olds fresh sent : List Message) → Stands olds fresh sent
    → Merged c.split olds fresh sent (held_of c)

-- ---- the state, by its lists; the rest of this file is for private functions
abbrev pub ElemsRiseFrom : ℕ → List Elem → Type 0
ElemsRiseFrom b [] = ⊤
ElemsRiseFrom b (e ∷ es) = (b ≤ e.span.start) × IsInterval e.span.start e.span.end
    × ElemsRiseFrom e.span.start es

abbrev pub count_of : List Elem → ℕ
count_of es = weigh (λ _. 1) es

-- The old elements `lone` wait for a partner and all start at s, and the old elements `olds` wait
-- for those. The fresh elements `partners` start at the split and `later` above it. The sides'
-- heartbeats are ob and fb, and that of what was sent is b.
pub record Parts (split ob fb b s : ℕ)
    (olds lone partners later old_ones fresh_ones sent : List Elem) : Type 0 where
  pub old_beat : b ≤ ob
  pub fresh_beat : b ≤ max split fb
  pub olds_rise : ElemsRiseFrom b olds
  pub olds_low : weigh (starts_above ob) olds ≡ 0
  pub olds_end : weigh (ends_above split) olds ≡ 0
  pub lone_at : weigh (starts_elsewhere s) lone ≡ 0
  pub lone_end : weigh (ends_elsewhere split) lone ≡ 0
  pub lone_are : weigh is_no_interval lone ≡ 0
  pub lone_low : 0 < count_of lone → (b ≤ s) × (s ≤ ob) × (s < split) × ElemsRiseFrom s olds
  pub partners_at : weigh (starts_elsewhere split) partners ≡ 0
  pub partners_low : 0 < count_of partners → b ≤ split
  pub partners_are : weigh is_no_interval partners ≡ 0
  pub later_rise : ElemsRiseFrom b later
  pub later_high : weigh (starts_by split) later ≡ 0
  pub later_low : weigh (starts_above fb) later ≡ 0
  pub sent_low : weigh (starts_above b) sent ≡ 0
  pub early : fb ≤ split → weigh (ends_at split) sent ≡ 0
  pub apart : touching split (sent ++ (lone ++ partners)) ≡ 0
  pub bags : Bags split old_ones fresh_ones (sent ++ (olds ++ (lone ++ (partners ++ later))))

-- between the steps of a call
pub record Flows (c : Coalesce) (waiting : List Elem)
    (olds fresh sent : List Message) : Type 0 where
  pub going : c.failed ≡ false
  pub old_valid : Valid olds
  pub fresh_valid : Valid fresh
  pub old_watch : c.old_watch ≡ run start_of_list olds
  pub fresh_watch : c.fresh_watch ≡ run start_of_list fresh
  pub old_low : weigh (ends_above c.split) (elements olds) ≡ 0
  pub fresh_high : weigh (starts_below c.split) (elements fresh) ≡ 0
  pub sent_valid : Valid sent
  pub unended : (run start_of_list sent).ended ≡ false
  pub parts : Parts c.split c.old_watch.beat c.fresh_watch.beat
      (beat sent) c.lone_start waiting c.lone c.partners c.later
      (elements olds) (elements fresh) (elements sent)

-- No old element can pass: none waits, or the first starts after those without a partner.
pub record IsBlocked (c : Coalesce) : Type 0 where
  pub passed : c.lone ≡ [] → c.olds ≡ []
  pub ahead : FirstElsewhere c.lone_start c.olds

-- What could go was sent.
pub record IsSettled (c : Coalesce) : Type 0 where
  pub opened : c.split < c.fresh_watch.beat → c.lone ≡ []
  pub blocked : IsBlocked c
  pub partners_gone : c.split ≤ now_of c → c.partners ≡ []
  pub later_gone : weigh (starts_by (now_of c)) c.later ≡ 0

-- between the steps of a call, the fresh side's heartbeat being this
pub record FreshFlows (c : Coalesce) (fresh_beat : ℕ) (old_ones fresh_ones : List Elem)
    (sent : List Message) : Type 0 where
  pub sent_valid : Valid sent
  pub unended : (run start_of_list sent).ended ≡ false
  pub parts : Parts c.split c.old_watch.beat fresh_beat
      (beat sent) c.lone_start c.olds c.lone c.partners c.later
      old_ones fresh_ones (elements sent)

-- A Coalesce stands for the lists of both sides and the list that it sent.
pub record CoalesceStands (c : Coalesce) (olds fresh sent : List Message) : Type 0 where
  pub going : c.failed ≡ false
  pub old_valid : Valid olds
  pub fresh_valid : Valid fresh
  pub old_watch : c.old_watch ≡ run start_of_list olds
  pub fresh_watch : c.fresh_watch ≡ run start_of_list fresh
  pub old_low : weigh (ends_above c.split) (elements olds) ≡ 0
  pub fresh_high : weigh (starts_below c.split) (elements fresh) ≡ 0
  pub sent_valid : Valid sent
  pub sent_beat : beat sent ≡ now_of c
  pub sent_ended : (run start_of_list sent).ended ≡ (c.old_watch.ended && c.fresh_watch.ended)
  pub parts : Parts c.split c.old_watch.beat c.fresh_watch.beat
      (beat sent) c.lone_start c.olds c.lone c.partners c.later
      (elements olds) (elements fresh) (elements sent)
  pub settled : IsSettled c

abbrev pub IsMerged : Coalesce → Type 0
IsMerged c = IsMergedFor c (CoalesceStands c)

-- the number is the heartbeat of what was sent
abbrev pub IsBeatOfSent : Coalesce → ℕ → Type 0
IsBeatOfSent c n = (olds fresh sent : List Message) → CoalesceStands c olds fresh sent
    → n ≡ beat sent

-- The old side has ended, the fresh one is above the split or has ended, and nothing is held.
abbrev pub AreOver : Coalesce → List Message → List Message → Type 0
AreOver c olds fresh = HasEnded olds × ((c.split < beat fresh) ⊎ HasEnded fresh) × (held_of c ≡ 0)

-- whether it is over, by the lists of both sides
abbrev pub IsWhetherOver : Coalesce → Bool → Type 0
IsWhetherOver c answer = (olds fresh sent : List Message) → CoalesceStands c olds fresh sent
    → IsTrue answer ↔ AreOver c olds fresh

pub record Stays (c d : Coalesce) : Type 0 where
  pub split : d.split ≡ c.split
  pub failed : d.failed ≡ c.failed
  pub old_watch : d.old_watch ≡ c.old_watch
  pub fresh_watch : d.fresh_watch ≡ c.fresh_watch

-- from the one state to the other messages were sent, `waiting` and `left` being the old elements
-- that wait
pub record Moves (c d : Coalesce) (waiting left : List Elem)
    (before now : List Message) : Type 0 where
  pub stays : Stays c d
  pub more : List Message
  pub appended : now ≡ before ++ more
  pub flows : (olds fresh sent : List Message) → Flows c waiting olds fresh sent
      → Flows d left olds fresh (sent ++ more)
  pub opened : c.split < c.fresh_watch.beat → c.lone ≡ [] → d.lone ≡ []

-- an element of all that waits starts where the lone ones do, if there are any
abbrev pub CanPass : Coalesce → Elem → Type 0
CanPass c e = 0 < count_of c.lone → e.span.start ≡ c.lone_start

-- nothing else was changed
pub record SameBut (c d : Coalesce) : Type 0 where
  pub stays : Stays c d
  pub lone : d.lone ≡ c.lone
  pub lone_start : d.lone_start ≡ c.lone_start
  pub partners : d.partners ≡ c.partners
  pub later : d.later ≡ c.later

-- the next old element that can pass was taken out
pub record IsNext (c d : Coalesce) (e : Elem) : Type 0 where
  pub same : SameBut c d
  pub olds : c.olds ≡ e ∷ d.olds
  pub passes : CanPass d e

abbrev pub LacksTuple : List Value → List Elem → Type 0
LacksTuple t es = weigh (has_tuple t) es ≡ 0

pub record AdmitsOld (c d : Coalesce) (m : Message) : Type 0 where
  pub split : d.split ≡ c.split
  pub failed : d.failed ≡ c.failed
  pub flows : (olds fresh sent : List Message) → Flows c c.olds olds fresh sent
      → CanFollow (run start_of_list olds) m
      → EndsBy c.split m → Flows d d.olds (olds ++ m ∷ []) fresh sent

-- a fresh element came, and the fresh watch has seen it before
pub record AdmitsElem (c d : Coalesce) (e : Elem) (before now : List Message) : Type 0 where
  pub stays : Stays c d
  pub olds : d.olds ≡ c.olds
  pub more : List Message
  pub appended : now ≡ before ++ more
  pub flows : (was : ℕ) (old_ones fresh_ones : List Elem) (sent : List Message)
      → FreshFlows c was old_ones fresh_ones sent → was ≤ e.span.start → c.split ≤ e.span.start
      → IsInterval e.span.start e.span.end
      → FreshFlows d e.span.start old_ones (fresh_ones ++ e ∷ []) (sent ++ more)

pub record AdmitsFresh (c d : Coalesce) (m : Message) (before now : List Message) : Type 0 where
  pub split : d.split ≡ c.split
  pub failed : d.failed ≡ c.failed
  pub more : List Message
  pub appended : now ≡ before ++ more
  pub flows : (olds fresh sent : List Message) → Flows c c.olds olds fresh sent
      → CanFollow (run start_of_list fresh) m
      → StartsFromSplit c.split m → Flows d d.olds olds (fresh ++ m ∷ []) (sent ++ more)

-- a message of this side was taken in
abbrev pub SideAdmits : Side → Coalesce → Coalesce → Message → List Message → List Message → Type 0
SideAdmits side.Old c d m before now = AdmitsOld c d m × (now ≡ before)
SideAdmits side.Fresh c d m before now = AdmitsFresh c d m before now

-- the next fresh element above the split was taken out, and is due
pub record IsDue (c d : Coalesce) (at : ℕ) (e : Elem) : Type 0 where
  pub stays : Stays c d
  pub olds : d.olds ≡ c.olds
  pub lone : d.lone ≡ c.lone
  pub lone_start : d.lone_start ≡ c.lone_start
  pub partners : d.partners ≡ c.partners
  pub rest : c.later ≡ e ∷ d.later
  pub due : e.span.start ≤ at

-- fresh elements that are due at the instant were sent
pub record Releases (c d : Coalesce) (at : ℕ) (before now : List Message) : Type 0 where
  pub moves : Moves c d c.olds d.olds before now
  pub olds : d.olds ≡ c.olds
  pub lone : d.lone ≡ c.lone
  pub lone_start : d.lone_start ≡ c.lone_start
  pub within : (olds fresh sent : List Message) → Flows c c.olds olds fresh sent → beat sent ≤ at
      → beat (sent ++ moves.more) ≤ at

-- what is sent after the elements: the end, or how far they are
abbrev pub tell : ℕ → ℕ → Bool → List Message
tell beat_sent now true = message.End ∷ []
tell beat_sent now false = cond (nat_lt beat_sent now) (message.Beat now ∷ []) []

-- all that can go was sent, and then how far that is
pub record SendsDue (c d : Coalesce) (beat_sent : ℕ) (before now : List Message) : Type 0 where
  pub stays : Stays c d
  pub more : List Message
  pub appended : now ≡ before ++ more
  pub stands : (olds fresh sent : List Message) → Flows c c.olds olds fresh sent
      → beat_sent ≤ beat sent
      → CoalesceStands d olds fresh (sent ++ more)

-- a message of one side was taken, and messages were put after those that were there
pub record TakesOld (c d : Coalesce) (m : Message) (before now : List Message) : Type 0 where
  pub more : List Message
  pub appended : now ≡ before ++ more
  pub stands : (olds fresh sent : List Message) → CoalesceStands c olds fresh sent
      → CanFollow (run start_of_list olds) m
      → EndsBy c.split m → CoalesceStands d (olds ++ m ∷ []) fresh (sent ++ more)

pub record TakesFresh (c d : Coalesce) (m : Message) (before now : List Message) : Type 0 where
  pub more : List Message
  pub appended : now ≡ before ++ more
  pub stands : (olds fresh sent : List Message) → CoalesceStands c olds fresh sent
      → CanFollow (run start_of_list fresh) m
      → StartsFromSplit c.split m → CoalesceStands d olds (fresh ++ m ∷ []) (sent ++ more)

abbrev pub SideTakes : Side → Coalesce → Coalesce → Message → List Message → List Message → Type 0
SideTakes side.Old c d m before now = TakesOld c d m before now
SideTakes side.Fresh c d m before now = TakesFresh c d m before now

-- all is as it was, but the buffer of what was sent
pub record HandsOver (c d : Coalesce) : Type 0 where
  pub same : SameBut c d
  pub olds : d.olds ≡ c.olds
