-- A group operator goes on to stand for longer lists.
use Rattle.std.proofs.Common.{◌≡◌, ℕ, ◌≤◌, ◌<◌, Bool, true, false, List, [], ◌∷◌, ◌++◌}
use Rattle.std.proofs.Common.{refl, sym, ◌∙◌, subst, ap, arith, append_assoc}
use Rattle.std.specs.List.{All}
use Rattle.std.proofs.lemmas.List.{map-append}
use Rattle.std.proofs.lemmas.List.Elements.{All-nil, All-cons, All-append}
use Rattle.pipes_stream.proofs.Following.{arrived-fits}
use Rattle.pipes_stream.proofs.Following.{not_ended}
use Rattle.pipes_time.specs.Interval.{closed}
use Rattle.pipes_tuple.specs.declared.value.Kind.{Kind}
use Rattle.pipes_tuple.specs.Kinds.{Fits}
use Rattle.pipes_stream.specs.declared.Elem.{Elem}
use Rattle.pipes_stream.specs.declared.message.Message.{Message}
use Rattle.pipes_stream.specs.declared.message.Message.TheVariants as message
use Rattle.pipes_stream.specs.Progress.{Progress}
use Rattle.pipes_stream.specs.Lists.{CanFollow, after, run, start_of_list, Valid, beat, elements}
use Rattle.pipes_stream.specs.Lawful.{Lists, Takes, CanTake, MessageFits, with_message}
use Rattle.pipes_stream.specs.Lawful.{no_messages}
use Rattle.pipes_stream.proofs.Messages.{run-push, after-rises, valid-push, elements-append}
use Rattle.pipes_stream.proofs.Messages.{beat-closed, beat-ended}
use Rattle.pipes_relation.specs.declared.lists.Agg.{Agg}
use Rattle.pipes_plan.specs.declared.plan.Plan.TheVariants as plan
use Rattle.pipes_plan.specs.PlanKinds.{IsTyped}
use Rattle.pipes_sweep.specs.Sending.{progress_after}
use Rattle.pipes_timeline.specs.declared.timeline.Timeline.{Timeline}
use Rattle.pipes_timeline.specs.Rules.{Arrival}
use Rattle.pipes_timeline.specs.Queues.{FirstIsOpen}
use Rattle.pipes_timeline.specs.Timelines.{Arrives, Trims, Passes, Sends, reach}
use Rattle.pipes_timeline.specs.Stands.{TimelineStands}
use Rattle.pipes_timeline.specs.Feeding.{LineFed}
use Rattle.pipes_timeline.proofs.Beginning.{stands_new}
use Rattle.pipes_timeline.proofs.Fed.{fed_start, fed_passed, fed_arrived, fed_trimmed, stands_sent}
use Rattle.pipes_group.specs.declared.tally.Tally.{Tally}
use Rattle.pipes_group.specs.declared.tally.Grouping.{Grouping}
use Rattle.pipes_group.specs.declared.group.Group.{Group}
use Rattle.pipes_group.specs.Tasks.{group_task}
use Rattle.pipes_group.specs.Groups.{GroupTells}
use Rattle.pipes_group.specs.GroupLaw.{group_rule}
use Rattle.pipes_group.specs.Grouped.{arrivals, GroupStands, StartsAt, TakesUp}

abbrev GroupLine : Type 0
GroupLine = Timeline Tally Grouping

-- ---- an element is taken in
module _ (columns : List ℕ) (aggs : List Agg) where
  pub takes_up_elem : (old mid new : GroupLine) (e : Elem)
      → Arrives (group_rule columns aggs) (GroupTells columns aggs) old mid (0, e)
      → Trims (group_rule columns aggs) (GroupTells columns aggs) mid new
      → TakesUp columns aggs old new (message.Elem e)
  takes_up_elem old mid new e arrives trims = record {
    good = λ low h fed sent at f.
        (let rises : e.span.start < e.span.end = at.1.0 in
        let most : e.span.end ≤ 1000000000000000 = at.1.1 in
        let start : e.span.start ≡ h = at.0 in
        fed_trimmed (group_rule columns aggs) (GroupTells columns aggs) mid new low h
        (fed ++ (0, e) ∷ []) sent (omega (arith, rises, most, start)) trims
        (fed_arrived (group_rule columns aggs) (GroupTells columns aggs) old mid low h fed sent
        (0, e) at.0 at.1 arrives f));
  }

pub takes_up_arrived : (old mid new : GroupLine) (m : Message) (e : Elem) → m ≡ message.Elem e
    → Arrives (group_rule old.rule.columns old.rule.aggs)
    (GroupTells old.rule.columns old.rule.aggs) old mid (0, e) → mid.rule ≡ old.rule
    → Trims (group_rule mid.rule.columns mid.rule.aggs)
    (GroupTells mid.rule.columns mid.rule.aggs) mid new
    → TakesUp old.rule.columns old.rule.aggs old new m
takes_up_arrived old mid new m e is arrives rule trims =
    subst (λ (n : Message). TakesUp old.rule.columns old.rule.aggs old new n) (sym is)
    (takes_up_elem old.rule.columns old.rule.aggs old mid new e arrives
    (subst (λ (g : Grouping). Trims (group_rule g.columns g.aggs)
    (GroupTells g.columns g.aggs) mid new) rule trims))

starts-now : (p : Progress) (m : Message) → CanFollow p m → StartsAt (after p m).beat m
starts-now p (message.Elem e) w = (refl, w.2)
starts-now p (message.Beat at) w = tt
starts-now p message.End w = tt

module _ (old new : Group) (passed mid : GroupLine) (m : Message) (taken : Lists)
    (earlier : List Message) (s : GroupStands old taken earlier)
    (can : CanTake (group_task old.line.rule.columns old.line.rule.aggs old.schema) taken 0 m)
    (watches : CanFollow old.watch m → new.watch ≡ after old.watch m)
    (passes : Passes (group_rule old.line.rule.columns old.line.rule.aggs)
    (GroupTells old.line.rule.columns old.line.rule.aggs) old.line passed new.watch.beat)
    (instant : passed.instant ≡ new.watch.beat)
    (over : All (λ d. new.watch.beat < d.1.span.end) passed.ends)
    (takes : TakesUp old.line.rule.columns old.line.rule.aggs passed mid m)
    (out between : List Message)
    (sends : Sends (group_rule old.line.rule.columns old.line.rule.aggs)
    (GroupTells old.line.rule.columns old.line.rule.aggs) mid new.line out between)
    (opens : FirstIsOpen new.line.pieces.queue.items)
    (schema : new.schema ≡ old.schema) (failed : new.failed ≡ old.failed)
    (rule : new.line.rule ≡ old.line.rule) where
  abbrev columns : List ℕ
  columns = old.line.rule.columns

  abbrev aggs : List Agg
  aggs = old.line.rule.aggs

  abbrev now : List Message
  now = taken 0 ++ m ∷ []

  follows : CanFollow old.watch m
  follows = subst (λ (p : Progress). CanFollow p m) (sym s.watch_is) can.follows

  moved : new.watch ≡ after old.watch m
  moved = watches follows

  watch : new.watch ≡ run start_of_list now
  watch = moved ∙ ap (λ (p : Progress). after p m) s.watch_is
      ∙ sym (run-push start_of_list (taken 0) m)

  valid : Valid now
  valid = valid-push start_of_list (taken 0) m s.taken_valid can.follows

  beat-is : new.watch.beat ≡ beat now
  beat-is = ap (λ (p : Progress). p.beat) watch

  rises : beat (taken 0) ≤ new.watch.beat
  rises =
      let a = after-rises (run start_of_list (taken 0)) m can.follows
      (beat-closed (taken 0) s.taken_valid) in
      let b : beat now ≡ (after (run start_of_list (taken 0)) m).beat =
      ap (λ (p : Progress). p.beat) (run-push start_of_list (taken 0) m) in
      let c = beat-is in
      let d = a.0 in
      omega (arith, b, c, d)

  starts : StartsAt new.watch.beat m
  starts = subst (λ (p : Progress). StartsAt p.beat m) (sym moved) (starts-now old.watch m follows)

  all-arrivals : arrivals (elements now) ≡ arrivals (elements (taken 0))
      ++ arrivals (elements (m ∷ []))
  all-arrivals =
      ap arrivals (elements-append (taken 0) (m ∷ []))
      ∙ map-append (λ (e : Elem). (0, e)) (elements (taken 0)) (elements (m ∷ []))

  fed : LineFed (group_rule columns aggs) (GroupTells columns aggs) mid (beat earlier)
      new.watch.beat (arrivals (elements now)) (elements earlier)
  fed =
      let a = fed_start (group_rule columns aggs) (GroupTells columns aggs) old.line
      (beat (taken 0))
      old.watch.ended (arrivals (elements (taken 0))) earlier s.line in
      let b = fed_passed (group_rule columns aggs) (GroupTells columns aggs) old.line passed
      (beat earlier) (beat (taken 0)) new.watch.beat (arrivals (elements (taken 0)))
      (elements earlier) rises passes instant over a in
      subst (λ (es : List Arrival). LineFed (group_rule columns aggs) (GroupTells columns aggs) mid
      (beat earlier) new.watch.beat es (elements earlier)) (sym all-arrivals)
      (takes.good (beat earlier) new.watch.beat (arrivals (elements (taken 0))) (elements earlier)
      starts b)

  was-going : (run start_of_list earlier).ended ≡ false
  was-going = s.line.sent_ended ∙ not_ended old.watch m follows

  at-end : new.watch.ended ≡ true → new.watch.beat ≡ closed
  at-end e = beat-is ∙ beat-ended now valid (sym (ap (λ (p : Progress). p.ended) watch) ∙ e)

  pub group_next : GroupStands new (with_message taken 0 m)
      (earlier ++ (sends.more ++ progress_after (reach old.line.pieces.queue.items old.line.instant)
      (reach new.line.pieces.queue.items new.line.instant) new.watch.ended))
  group_next =
      let before : beat earlier ≡ reach old.line.pieces.queue.items old.line.instant =
      s.line.sent_beat ∙ ap (λ (n : ℕ). reach old.line.pieces.queue.items n) (sym s.line.now) in
      let most : new.watch.beat ≤ closed =
      (let a = beat-closed now valid in let b = beat-is in omega (arith, a, b)) in
      let t = stands_sent (group_rule columns aggs) (GroupTells columns aggs) mid new.line
      new.watch.beat (reach old.line.pieces.queue.items old.line.instant) new.watch.ended
      (arrivals (elements now)) earlier out between s.line.sent_valid was-going before fed sends
      opens most at-end in
      let u = subst (λ (n : ℕ). TimelineStands (group_rule columns aggs) (GroupTells columns aggs)
      new.line new.watch.beat new.watch.ended (arrivals (elements now))
      (earlier ++ (sends.more ++ progress_after
      (reach old.line.pieces.queue.items old.line.instant)
      (reach new.line.pieces.queue.items n) new.watch.ended))) (sym t.now) t in
      let w = subst (λ (n : ℕ). TimelineStands (group_rule columns aggs) (GroupTells columns aggs)
      new.line n new.watch.ended (arrivals (elements now))
      (earlier ++ (sends.more ++ progress_after
      (reach old.line.pieces.queue.items old.line.instant)
      (reach new.line.pieces.queue.items new.line.instant) new.watch.ended))) beat-is u in
      record {
        going = failed ∙ s.going;
        typed = subst (λ (kinds : List Kind). IsTyped (plan.Group new.line.rule.columns
            new.line.rule.aggs (plan.Source 0)) (kinds ∷ [])) (sym schema)
            (subst (λ (g : Grouping). IsTyped (plan.Group g.columns g.aggs (plan.Source 0))
            (old.schema ∷ [])) (sym rule) s.typed);
        taken_valid = valid;
        taken_fits = subst (λ (kinds : List Kind). All (λ e. Fits e.tuple kinds) (elements now))
            (sym schema)
            (subst (λ (es : List Elem). All (λ e. Fits e.tuple old.schema) es)
            (sym (elements-append (taken 0) (m ∷ [])))
            (All-append (λ (e : Elem). Fits e.tuple old.schema) (elements (taken 0))
            (elements (m ∷ [])) s.taken_fits (arrived-fits m old.schema can.fits)));
        watch_is = watch;
        line = subst (λ (g : Grouping). TimelineStands (group_rule g.columns g.aggs)
            (GroupTells g.columns g.aggs) new.line (beat now) new.watch.ended
            (arrivals (elements now))
            (earlier ++ (sends.more ++ progress_after
            (reach old.line.pieces.queue.items old.line.instant)
            (reach new.line.pieces.queue.items new.line.instant) new.watch.ended)))
            (sym rule) w;
      }

pub group_takes : (old new : Group) (watched : Progress) (passed mid : GroupLine) (m : Message)
    (h before at : ℕ) (ended : Bool) (out between now : List Message)
    → (CanFollow old.watch m → watched ≡ after old.watch m) → new.watch ≡ watched
    → h ≡ watched.beat
    → Passes (group_rule old.line.rule.columns old.line.rule.aggs)
    (GroupTells old.line.rule.columns old.line.rule.aggs) old.line passed h
    → passed.instant ≡ h → All (λ d. h < d.1.span.end) passed.ends
    → passed.rule ≡ old.line.rule
    → TakesUp passed.rule.columns passed.rule.aggs passed mid m → mid.rule ≡ passed.rule
    → Sends (group_rule mid.rule.columns mid.rule.aggs) (GroupTells mid.rule.columns mid.rule.aggs)
    mid new.line out between → FirstIsOpen new.line.pieces.queue.items
    → new.line.rule ≡ mid.rule
    → before ≡ reach old.line.pieces.queue.items old.line.instant
    → at ≡ reach new.line.pieces.queue.items new.line.instant → ended ≡ new.watch.ended
    → now ≡ between ++ progress_after before at ended → new.schema ≡ old.schema
    → new.failed ≡ old.failed
    → Takes (group_task old.line.rule.columns old.line.rule.aggs old.schema) (GroupStands old)
    (GroupStands new) 0 m out now
group_takes old new watched passed mid m h before at ended out between last saw same h_is passes
    instant over passed_rule takes mid_rule sends opens new_rule before_is at_is ended_is appended
    schema failed =
    let columns : List ℕ = old.line.rule.columns in
    let aggs : List Agg = old.line.rule.aggs in
    let watches : CanFollow old.watch m → new.watch ≡ after old.watch m = λ w. same ∙ saw w in
    let beat_is : h ≡ new.watch.beat = h_is ∙ ap (λ (p : Progress). p.beat) (sym same) in
    let taken_up : TakesUp columns aggs passed mid m =
    subst (λ (g : Grouping). TakesUp g.columns g.aggs passed mid m) passed_rule takes in
    let sent_on : Sends (group_rule columns aggs) (GroupTells columns aggs) mid new.line out
    between =
    subst (λ (g : Grouping). Sends (group_rule g.columns g.aggs) (GroupTells g.columns g.aggs) mid
    new.line out between) (mid_rule ∙ passed_rule) sends in
    let beats : List Message = progress_after before at ended in
    let is : beats ≡ progress_after (reach old.line.pieces.queue.items old.line.instant)
    (reach new.line.pieces.queue.items new.line.instant) new.watch.ended =
    ap (λ (n : ℕ). progress_after n at ended) before_is
    ∙ ap (λ (n : ℕ). progress_after (reach old.line.pieces.queue.items old.line.instant) n ended)
    at_is
    ∙ ap (λ (b : Bool). progress_after (reach old.line.pieces.queue.items old.line.instant)
    (reach new.line.pieces.queue.items new.line.instant) b) ended_is in
    record {
      sent = sent_on.more ++ beats;
      appended = appended ∙ ap (λ (ms : List Message). ms ++ beats) sent_on.appended
          ∙ append_assoc out sent_on.more beats;
      stands = λ taken earlier s can.
          subst (λ (ms : List Message). GroupStands new (with_message taken 0 m)
          (earlier ++ (sent_on.more ++ ms))) (sym is)
          (group_next old new passed mid m taken earlier s can watches
          (subst (λ (n : ℕ). Passes (group_rule columns aggs) (GroupTells columns aggs) old.line
          passed n) beat_is passes) (instant ∙ beat_is)
          (subst (λ (n : ℕ). All (λ d. n < d.1.span.end) passed.ends) beat_is over) taken_up
          out between sent_on opens schema failed (new_rule ∙ mid_rule ∙ passed_rule));
    }

-- nothing has come
pub group_new : (g : Group) → g.failed ≡ false
    → IsTyped (plan.Group g.line.rule.columns g.line.rule.aggs (plan.Source 0)) (g.schema ∷ [])
    → g.watch ≡ start_of_list → g.line.instant ≡ 0 → g.line.slots.entries ≡ []
    → g.line.pieces.queue.items ≡ [] → g.line.ends ≡ [] → GroupStands g no_messages []
group_new g going typed watch now slots pieces ends = record {
  going = going;
  typed = typed;
  taken_valid = tt;
  taken_fits = All-nil (λ (e : Elem). Fits e.tuple g.schema);
  watch_is = watch;
  line = subst (λ (p : Progress). TimelineStands (group_rule g.line.rule.columns g.line.rule.aggs)
      (GroupTells g.line.rule.columns g.line.rule.aggs) g.line 0 p.ended [] []) (sym watch)
      (stands_new (group_rule g.line.rule.columns g.line.rule.aggs)
      (GroupTells g.line.rule.columns g.line.rule.aggs) g.line now slots pieces ends);
}
