-- What a group operator stands for.
use Rattle.std.specs.Prelude.{ℕ, ◌≡◌, false, List, ◌∷◌, ◌++◌, [], map}
use Rattle.std.specs.List.{All}
use Rattle.pipes_time.specs.Interval.{IsInterval}
use Rattle.pipes_tuple.specs.Kinds.{Fits}
use Rattle.pipes_stream.specs.declared.Elem.{Elem}
use Rattle.pipes_stream.specs.declared.message.Message.{Message}
use Rattle.pipes_stream.specs.declared.message.Message.TheVariants as message
use Rattle.pipes_stream.specs.Lists.{run, start_of_list, Valid, beat, elements}
use Rattle.pipes_stream.specs.Lawful.{Lists}
use Rattle.pipes_relation.specs.declared.lists.Agg.{Agg}
use Rattle.pipes_plan.specs.declared.plan.Plan.TheVariants as plan
use Rattle.pipes_plan.specs.PlanKinds.{IsTyped}
use Rattle.pipes_timeline.specs.declared.timeline.Timeline.{Timeline}
use Rattle.pipes_timeline.specs.Rules.{Arrival}
use Rattle.pipes_timeline.specs.Feeding.{LineFed}
use Rattle.pipes_timeline.specs.Stands.{TimelineStands}
use Rattle.pipes_group.specs.declared.tally.Tally.{Tally}
use Rattle.pipes_group.specs.declared.tally.Grouping.{Grouping}
use Rattle.pipes_group.specs.declared.group.Group.{Group}
use Rattle.pipes_group.specs.Groups.{GroupTells}
use Rattle.pipes_group.specs.GroupLaw.{group_rule}

-- the elements of one port
abbrev pub arrivals : List Elem → List Arrival
arrivals es = map (λ e. (0, e)) es

-- The timeline has taken in all that was taken.
pub record GroupStands (g : Group) (taken : Lists) (sent : List Message) : Type 0 where
  pub going : g.failed ≡ false
  pub typed : IsTyped (plan.Group g.line.rule.columns g.line.rule.aggs (plan.Source 0))
      (g.schema ∷ [])
  pub taken_valid : Valid (taken 0)
  pub taken_fits : All (λ e. Fits e.tuple g.schema) (elements (taken 0))
  pub watch_is : g.watch ≡ run start_of_list (taken 0)
  pub line : TimelineStands (group_rule g.line.rule.columns g.line.rule.aggs)
      (GroupTells g.line.rule.columns g.line.rule.aggs) g.line (beat (taken 0)) g.watch.ended
      (arrivals (elements (taken 0))) sent

-- the message's element starts at the instant
abbrev pub StartsAt : ℕ → Message → Type 0
StartsAt h (message.Elem e) = (e.span.start ≡ h) × IsInterval e.span.start e.span.end
StartsAt h (message.Beat at) = Unit {0}
StartsAt h message.End = Unit {0}

-- the message's element was taken in, which starts now
pub record TakesUp (columns : List ℕ) (aggs : List Agg) (old new : Timeline Tally Grouping)
    (m : Message) : Type 0 where
  pub good : (low h : ℕ) (fed : List Arrival) (sent : List Elem) → StartsAt h m
      → LineFed (group_rule columns aggs) (GroupTells columns aggs) old low h fed sent
      → LineFed (group_rule columns aggs) (GroupTells columns aggs) new low h
      (fed ++ arrivals (elements (m ∷ []))) sent
