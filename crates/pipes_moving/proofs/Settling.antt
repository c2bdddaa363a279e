-- What a settle leaves while a plan is replaced.
use Rattle.std.proofs.Common.{◌≡◌, ℕ, ◌≤◌, ◌<◌, max, false, List, [], ◌++◌}
use Rattle.std.proofs.Common.{unwrap_or}
use Rattle.std.proofs.Common.{Option, refl, sym, ◌∙◌, ap, subst, arith, append_assoc, append-nil}
use Rattle.std.specs.List.{All}
use Rattle.std.proofs.lemmas.List.Elements.{All-same}
use Rattle.pipes_time.specs.Interval.{horizon}
use Rattle.pipes_tuple.specs.declared.value.Kind.{Kind}
use Rattle.pipes_tuple.specs.Kinds.{Fits}
use Rattle.pipes_tuple.specs.Bag.{SameBag}
use Rattle.pipes_tuple.proofs.Bags.{SameBag-trans}
use Rattle.pipes_stream.specs.declared.Elem.{Elem}
use Rattle.pipes_stream.specs.declared.message.Message.{Message}
use Rattle.pipes_stream.specs.Snapshot.{snapshot}
use Rattle.pipes_stream.specs.Lists.{Valid, ValidFrom, beat, elements}
use Rattle.pipes_stream.specs.Lawful.{Lists}
use Rattle.pipes_stream.specs.Weights.{weigh}
use Rattle.pipes_stream.proofs.Messages.{elements-append}
use Rattle.pipes_coalesce.specs.Tests.{ends_above}
use Rattle.pipes_coalesce.specs.Stands.{IsMerged}
use Rattle.pipes_seam.specs.declared.seam.Seam.{Seam}
use Rattle.pipes_seam.specs.Seams.{Joins, told, level_of, opening_of}
use Rattle.pipes_seam.proofs.Telling.{told-elements, told-level}
use Rattle.pipes_seam.proofs.Going.{Goes, goes, both-weigh}
use Rattle.pipes_seam.proofs.Openings.{opened-list-elements}
use Rattle.pipes_seam.proofs.Spans.{ends-none, none-ends}
use Rattle.pipes_plan.specs.declared.plan.Plan.{Plan}
use Rattle.pipes_plan.specs.PlanKinds.{IsTyped}
use Rattle.pipes_output.specs.declared.entry.Entry.{Entry}
use Rattle.pipes_semantics.specs.Written.{results}
use Rattle.pipes_box.specs.Boxes.{IsStill}
use Rattle.pipes_works.specs.Sources.{AnswersSources, AllReached, KeepsUpWithSources}
use Rattle.pipes_works.specs.Standing.{WorksStand}
use Rattle.pipes_written.specs.declared.output.Output.{Output}
use Rattle.pipes_written.specs.Written.{Answers, IsWritten, Continues, results_of, level_after}
use Rattle.pipes_written.specs.Made.{Made, Adds, drained}
use Rattle.pipes_written.proofs.Splits.{results-append, results-map}
use Rattle.pipes_standing.specs.Calms.{Rows, AllFed, AllEndBy, Advances, answer_of, kinds_of}
use Rattle.pipes_standing.proofs.Calming.{top-ends, sent-advances}
use Rattle.pipes_moving.specs.declared.moving.Moving.{Moving}
use Rattle.pipes_moving.specs.Moves.{IsMoving, FedBelow, split_of, first_of}
use Rattle.pipes_moving.specs.Steps.{WorksBothOff, Settles, Tells}
use Rattle.pipes_moving.proofs.Tops.{top-starts}

-- the kinds of what comes to a top
kinds-fit : (schemas : List (List Kind)) (plan : Plan) (by_source : Lists) (got : List Message)
    → IsTyped plan schemas → AnswersSources schemas plan by_source got
    → All (λ e. Fits e.tuple (kinds_of schemas plan)) (elements got)
kinds-fit schemas plan by_source got typed answers =
    let e : kinds_of schemas plan ≡ typed.schema =
    ap (λ (o : Option (List Kind)). unwrap_or o []) typed.is in
    subst (λ (k : List Kind). All (λ e. Fits e.tuple k) (elements got)) (sym e)
    (answers.fits typed.schema typed.is)

module _ (schemas : List (List Kind)) (before after : Plan) (rows : Rows) (base : ℕ)
    (below from : Lists) (entries : List Entry) (old new : Moving)
    (s : IsMoving old schemas before after rows base below from entries)
    (old_answers : AnswersSources schemas before below s.old_got)
    (old_reached : AllReached schemas before below (beat s.old_got))
    (fresh_answers : AnswersSources schemas after from s.fresh_got)
    (fresh_reached : AllReached schemas after from (beat s.fresh_got)) (empty now : List Message)
    (joins : Joins old.seam new.seam old.old_sent.items old.fresh_sent.items empty now)
    (none : empty ≡ []) (merges : IsMerged new.seam.merge) where
  pub gone : Goes old.seam new.seam s.begun s.since s.fresh_got s.sent joins.more
  gone = goes old.seam new.seam s.begun s.since s.olds old.old_sent.items s.news
      old.fresh_sent.items s.fresh_got s.sent empty now joins s.merge merges s.olds_are s.news_are
      (subst Valid s.old_got_is old_answers.valid) fresh_answers.valid s.begun_is
      (subst (λ (l : List Message). weigh (ends_above (split_of old)) (elements l) ≡ 0)
      s.old_got_is
      (ends-none (split_of old) (elements s.old_got)
      (top-ends schemas before below s.old_got (split_of old) old_answers s.ends)))
      (top-starts schemas after from (max (split_of old) (first_of old)) (elements s.fresh_got)
      s.starts fresh_answers.spans)

  told-is : now ≡ told (elements joins.more) (level_of new.seam)
  told-is = joins.appended
      ∙ ap (λ (l : List Message). l ++ told (elements joins.more) (level_of new.seam)) none

  now-elements : elements now ≡ elements joins.more
  now-elements = ap elements told-is ∙ told-elements (elements joins.more) (level_of new.seam)

  now-level : level_after old.output.beat now ≡ max (first_of old) (beat (s.sent ++ joins.more))
  now-level = ap (level_after old.output.beat) told-is
      ∙ told-level (record { beat = old.output.beat; ended = false }) (elements joins.more)
      (level_of new.seam) ∙ gone.level

  all-written : results entries ++ elements now
      ≡ results s.earlier ++ elements (s.sent ++ joins.more)
  all-written = ap (λ (es : List Elem). results entries ++ es) now-elements
      ∙ ap (λ (es : List Elem). es ++ elements joins.more) s.results_are
      ∙ append_assoc (results s.earlier) (elements s.sent) (elements joins.more)
      ∙ ap (λ (es : List Elem). results s.earlier ++ es)
      (sym (elements-append s.sent joins.more))

  now-follows : ValidFrom (record { beat = old.output.beat; ended = false }) now
  now-follows = subst (λ (l : List Message). ValidFrom (record {
    beat = old.output.beat;
    ended = false;
  }) l) (sym told-is)
      (subst (λ (n : ℕ). ValidFrom (record { beat = n; ended = false })
      (told (elements joins.more) (level_of new.seam))) (sym s.beat_is) gone.follows)

  pub now-advances : new.output.beat ≡ level_after old.output.beat now
      → Advances old.output.beat new.output.beat now
  now-advances beat_is = sent-advances (record { beat = old.output.beat; ended = false }) now
      old.output.beat new.output.beat now-follows s.written.bounded refl beat_is

  -- no result ends above an instant by which all ends that the sources gave
  pub now-ends : (instant : ℕ) → AllEndBy schemas before instant below
      → AllEndBy schemas after instant from → All (λ e. e.span.end ≤ instant) (elements now)
  now-ends instant old_end fresh_end =
      let f : Elem → ℕ = ends_above instant in
      let old_none : weigh f (elements s.old_got) ≡ 0 =
      ends-none instant (elements s.old_got)
      (top-ends schemas before below s.old_got instant old_answers old_end) in
      let since_none : weigh f (elements s.since) ≡ 0 = omega (
        arith,
        old_none,
        ap (λ (l : List Message). weigh f (elements l)) s.old_got_is,
        both-weigh f s.begun s.since,
      ) in
      let side_none : weigh f (elements (opening_of s.begun ++ s.since)) ≡ 0 =
      ap (weigh f) (opened-list-elements s.begun s.since
      (subst Valid s.old_got_is old_answers.valid)) ∙ since_none in
      let fresh_none : weigh f (elements s.fresh_got) ≡ 0 =
      ends-none instant (elements s.fresh_got)
      (top-ends schemas after from s.fresh_got instant fresh_answers fresh_end) in
      let all : weigh f (elements (s.sent ++ joins.more)) ≡ 0 =
      gone.merged.ends instant side_none fresh_none in
      All-same (λ (e : Elem). e.span.end ≤ instant) (elements now) (elements joins.more)
      now-elements (none-ends instant (elements joins.more)
      (omega (arith, all, both-weigh f s.sent joins.more)))

  module _ (fed_below : FedBelow schemas before rows base (split_of old) below)
      (fed_from : AllFed schemas after rows (split_of old) from) where
    now-right : (t : ℕ) → old.output.beat ≤ t → t < level_after old.output.beat now → t < horizon
        → SameBag (snapshot (results entries ++ elements now) t) (answer_of before rows t)
    now-right t low high within =
        let level : level_after old.output.beat now
        ≡ max (first_of old) (beat (s.sent ++ joins.more)) = now-level in
        let first : first_of old ≤ t = omega (arith, low, s.beat_is) in
        let late : base ≤ t = omega (arith, first, s.based) in
        let ahead : t < beat (s.sent ++ joins.more) = omega (arith, high, level, first) in
        subst (λ (es : List Elem). SameBag (snapshot es t) (answer_of before rows t))
        (sym all-written)
        (gone.right t (answer_of before rows t) (results s.earlier) (s.shown t late) ahead
        (λ under in_old.
        let in_got : t < beat s.old_got = omega (arith, in_old, ap beat s.old_got_is) in
        subst (λ (l : List Message). SameBag (snapshot (elements l) t) (answer_of before rows t))
        s.old_got_is
        (old_answers.answer t (rows t) in_got
        (λ source reads. fed_below source t reads late under within
        (omega (arith, in_got, old_reached source reads)))))
        (λ above in_fresh.
        SameBag-trans
        (fresh_answers.answer t (rows t) in_fresh
        (λ source reads. fed_from source t reads above within
        (omega (arith, in_fresh, fresh_reached source reads))))
        (s.alike.answers t within)))

    pub continues : Continues (kinds_of schemas before) (answer_of before rows) old.output.beat
        entries now
    continues = record {
      so_far = record { beat = old.output.beat; ended = false };
      there = refl;
      valid = now-follows;
      fits = All-same (λ (e : Elem). Fits e.tuple (kinds_of schemas before)) (elements now)
          (elements joins.more) now-elements
          (gone.fits (kinds_of schemas before)
          (subst (λ (l : List Message). All (λ e. Fits e.tuple (kinds_of schemas before))
          (elements l)) s.old_got_is
          (kinds-fit schemas before below s.old_got s.typed_old old_answers))
          (subst (λ (k : List Kind). All (λ e. Fits e.tuple k) (elements s.fresh_got))
          s.alike.kinds (kinds-fit schemas after from s.fresh_got s.typed_fresh fresh_answers)));
      right = now-right;
    }

    pub moved : new.old_works ≡ old.old_works → new.fresh_works ≡ old.fresh_works
        → new.old_sent.items ≡ [] → new.fresh_sent.items ≡ []
        → new.output.beat ≡ level_after old.output.beat now
        → IsWritten (kinds_of schemas before) (answer_of before rows) new.output.beat
        (entries ++ results_of now)
        → IsMoving new schemas before after rows base below from (entries ++ results_of now)
    moved same_old same_fresh no_olds no_news beat_is written =
        let split : split_of new ≡ split_of old = joins.split in
        let first : first_of new ≡ first_of old = joins.first in
        record {
          typed_old = s.typed_old;
          typed_fresh = s.typed_fresh;
          alike = s.alike;
          old_got = s.old_got;
          fresh_got = s.fresh_got;
          old = rw same_old s.old;
          fresh = rw same_fresh s.fresh;
          ends = rw split s.ends;
          starts = rw (split, first) s.starts;
          begun = s.begun;
          earlier = s.earlier;
          begun_is = s.begun_is ∙ sym first;
          shown = s.shown;
          based = omega (arith, first, s.based);
          rises = omega (arith, split, s.rises);
          closes = omega (arith, split, s.closes);
          over_before = rw split s.over_before;
          since = s.since;
          old_got_is = s.old_got_is;
          olds = opening_of s.begun ++ s.since;
          news = s.fresh_got;
          sent = s.sent ++ joins.more;
          merge = gone.stands;
          olds_are = ap (λ (l : List Message). (opening_of s.begun ++ s.since) ++ l) no_olds
              ∙ append-nil (opening_of s.begun ++ s.since);
          news_are = ap (λ (l : List Message). s.fresh_got ++ l) no_news
              ∙ append-nil s.fresh_got;
          written = written;
          results_are = results-append entries (results_of now)
              ∙ ap (λ (es : List Elem). results entries ++ es) (results-map (elements now))
              ∙ all-written;
          beat_is = beat_is ∙ now-level
              ∙ ap (λ (n : ℕ). max n (beat (s.sent ++ joins.more))) (sym first);
        }

-- all that came is written
pub settles : (old new : Moving) (empty now : List Message)
    → Joins old.seam new.seam old.old_sent.items old.fresh_sent.items empty now → empty ≡ []
    → IsMerged new.seam.merge
    → ((schemas : List (List Kind)) (plan : Plan) (by_source : Lists) (got : List Message)
    → WorksStand old.old_works schemas plan by_source got
    → AnswersSources schemas plan by_source got)
    → ((schemas : List (List Kind)) (plan : Plan) (by_source : Lists) (got : List Message)
    → WorksStand old.old_works schemas plan by_source got
    → KeepsUpWithSources schemas plan by_source got)
    → ((schemas : List (List Kind)) (plan : Plan) (by_source : Lists) (got : List Message)
    → WorksStand old.fresh_works schemas plan by_source got
    → AnswersSources schemas plan by_source got)
    → ((schemas : List (List Kind)) (plan : Plan) (by_source : Lists) (got : List Message)
    → WorksStand old.fresh_works schemas plan by_source got
    → KeepsUpWithSources schemas plan by_source got)
    → IsStill new.old_works.plan_box → IsStill new.fresh_works.plan_box
    → new.old_works ≡ old.old_works → new.fresh_works ≡ old.fresh_works
    → new.old_sent.items ≡ [] → new.fresh_sent.items ≡ [] → Made old.output new.output now
    → ((kinds : List Kind) (answer : Answers) (entries : List Entry)
    → IsWritten kinds answer old.output.beat entries
    → Continues kinds answer old.output.beat entries now
    → IsWritten kinds answer new.output.beat (entries ++ results_of now))
    → Settles old new
settles old new empty now joins none merges answers keeps fresh_answers fresh_keeps still
    fresh_still same_old same_fresh no_olds no_news made written = record {
      sent = now;
      entries = made.entries;
      settled = record {
        old_still = still;
        fresh_still = fresh_still;
        no_olds = no_olds;
        no_news = no_news;
      };
      split = joins.split;
      first = joins.first;
      holds = λ schemas before after rows base below from entries s fed_below fed_from.
          let a = answers schemas before below s.old_got s.old in
          let b = (keeps schemas before below s.old_got s.old).below in
          let c = fresh_answers schemas after from s.fresh_got s.fresh in
          let d = (fresh_keeps schemas after from s.fresh_got s.fresh).below in
          let more = written (kinds_of schemas before) (answer_of before rows) entries s.written
          (continues schemas before after rows base below from entries old new s a b c d empty now
          joins none merges fed_below fed_from) in
          moved schemas before after rows base below from entries old new s a b c d empty now
          joins none merges fed_below fed_from same_old same_fresh no_olds no_news made.beat more;
      advances = λ schemas before after rows base below from entries s.
          now-advances schemas before after rows base below from entries old new s
          (answers schemas before below s.old_got s.old)
          (keeps schemas before below s.old_got s.old).below
          (fresh_answers schemas after from s.fresh_got s.fresh)
          (fresh_keeps schemas after from s.fresh_got s.fresh).below empty now joins none merges
          made.beat;
      ends = λ schemas before after rows base below from entries s instant old_end fresh_end.
          now-ends schemas before after rows base below from entries old new s
          (answers schemas before below s.old_got s.old)
          (keeps schemas before below s.old_got s.old).below
          (fresh_answers schemas after from s.fresh_got s.fresh)
          (fresh_keeps schemas after from s.fresh_got s.fresh).below empty now joins none merges
          instant old_end fresh_end;
    }

-- both plans were worked off
pub worked : (schemas : List (List Kind)) (before after : Plan) (rows : Rows) (base : ℕ)
    (below from : Lists) (entries : List Entry) (old new : Moving) → WorksBothOff old new
    → IsMoving old schemas before after rows base below from entries
    → IsMoving new schemas before after rows base below from entries
worked schemas before after rows base below from entries old new w s =
    let a = w.old_works in
    let b = w.fresh_works in
    record {
      typed_old = s.typed_old;
      typed_fresh = s.typed_fresh;
      alike = s.alike;
      old_got = s.old_got ++ a.more;
      fresh_got = s.fresh_got ++ b.more;
      old = a.stands schemas before below s.old_got s.old;
      fresh = b.stands schemas after from s.fresh_got s.fresh;
      ends = rw w.seam s.ends;
      starts = rw w.seam s.starts;
      begun = s.begun;
      earlier = s.earlier;
      begun_is = rw w.seam s.begun_is;
      shown = s.shown;
      based = rw w.seam s.based;
      rises = rw w.seam s.rises;
      closes = rw w.seam s.closes;
      over_before = rw w.seam s.over_before;
      since = s.since ++ a.more;
      old_got_is = ap (λ (l : List Message). l ++ a.more) s.old_got_is
          ∙ append_assoc s.begun s.since a.more;
      olds = s.olds;
      news = s.news;
      sent = s.sent;
      merge = rw w.seam s.merge;
      olds_are = ap (λ (l : List Message). s.olds ++ l) a.appended
          ∙ sym (append_assoc s.olds old.old_sent.items a.more)
          ∙ ap (λ (l : List Message). l ++ a.more) s.olds_are
          ∙ append_assoc (opening_of s.begun) s.since a.more;
      news_are = ap (λ (l : List Message). s.news ++ l) b.appended
          ∙ sym (append_assoc s.news old.fresh_sent.items b.more)
          ∙ ap (λ (l : List Message). l ++ b.more) s.news_are;
      written = rw w.output s.written;
      results_are = s.results_are;
      beat_is = rw (w.output, w.seam) s.beat_is;
    }

-- and then all is written
pub settles-after : (old mid new : Moving) → WorksBothOff old mid → Settles mid new
    → Settles old new
settles-after old mid new w s =
    let split : split_of mid ≡ split_of old = ap (λ (x : Seam). x.merge.split) w.seam in
    record {
      sent = s.sent;
      entries = s.entries ∙ ap (λ (o : Output). o.entries.items ++ results_of s.sent) w.output;
      settled = s.settled;
      split = s.split ∙ split;
      first = s.first ∙ ap (λ (x : Seam). x.first) w.seam;
      holds = λ schemas before after rows base below from entries m fed_below fed_from.
          s.holds schemas before after rows base below from entries
          (worked schemas before after rows base below from entries old mid w m)
          (subst (λ (t : ℕ). FedBelow schemas before rows base t below) (sym split) fed_below)
          (subst (λ (t : ℕ). AllFed schemas after rows t from) (sym split) fed_from);
      advances = λ schemas before after rows base below from entries m.
          subst (λ (o : Output). Advances o.beat new.output.beat s.sent) w.output
          (s.advances schemas before after rows base below from entries
          (worked schemas before after rows base below from entries old mid w m));
      ends = λ schemas before after rows base below from entries m.
          s.ends schemas before after rows base below from entries
          (worked schemas before after rows base below from entries old mid w m);
    }

-- all but the output is the same
pub record SameButOutput (old new : Moving) : Type 0 where
  pub old_works : new.old_works ≡ old.old_works
  pub fresh_works : new.fresh_works ≡ old.fresh_works
  pub olds : new.old_sent ≡ old.old_sent
  pub news : new.fresh_sent ≡ old.fresh_sent
  pub seam : new.seam ≡ old.seam

-- entries that are no results were made
pub moving-more : (schemas : List (List Kind)) (before after : Plan) (rows : Rows) (base : ℕ)
    (below from : Lists) (entries more : List Entry) (old new : Moving) → SameButOutput old new
    → new.output.beat ≡ old.output.beat → results more ≡ []
    → (IsWritten (kinds_of schemas before) (answer_of before rows) old.output.beat entries
    → IsWritten (kinds_of schemas before) (answer_of before rows) new.output.beat
    (entries ++ more))
    → IsMoving old schemas before after rows base below from entries
    → IsMoving new schemas before after rows base below from (entries ++ more)
moving-more schemas before after rows base below from entries more old new same beat_is none
    written s = record {
      typed_old = s.typed_old;
      typed_fresh = s.typed_fresh;
      alike = s.alike;
      old_got = s.old_got;
      fresh_got = s.fresh_got;
      old = rw same.old_works s.old;
      fresh = rw same.fresh_works s.fresh;
      ends = rw same.seam s.ends;
      starts = rw same.seam s.starts;
      begun = s.begun;
      earlier = s.earlier;
      begun_is = rw same.seam s.begun_is;
      shown = s.shown;
      based = rw same.seam s.based;
      rises = rw same.seam s.rises;
      closes = rw same.seam s.closes;
      over_before = rw same.seam s.over_before;
      since = s.since;
      old_got_is = s.old_got_is;
      olds = s.olds;
      news = s.news;
      sent = s.sent;
      merge = rw same.seam s.merge;
      olds_are = rw same.olds s.olds_are;
      news_are = rw same.news s.news_are;
      written = written s.written;
      results_are = results-append entries more
          ∙ ap (λ (es : List Elem). results entries ++ es) none ∙ append-nil (results entries)
          ∙ s.results_are;
      beat_is = rw same.seam (beat_is ∙ s.beat_is);
    }

-- the entries were taken
pub moving-same : (schemas : List (List Kind)) (before after : Plan) (rows : Rows) (base : ℕ)
    (below from : Lists) (entries : List Entry) (old new : Moving) → SameButOutput old new
    → new.output.beat ≡ old.output.beat
    → IsMoving old schemas before after rows base below from entries
    → IsMoving new schemas before after rows base below from entries
moving-same schemas before after rows base below from entries old new same beat_is s =
    subst (λ (l : List Entry). IsMoving new schemas before after rows base below from l)
    (append-nil entries)
    (moving-more schemas before after rows base below from entries [] old new same beat_is refl
    (λ w. rw beat_is (subst (λ (l : List Entry).
    IsWritten (kinds_of schemas before) (answer_of before rows) old.output.beat l)
    (sym (append-nil entries)) w)) s)

-- whether a call was out of memory doesn't bear on it
pub settles-same : (old mid new : Moving) → Settles old mid → SameButOutput mid new
    → new.output ≡ mid.output → Settles old new
settles-same old mid new s same output =
    let beat_is : new.output.beat ≡ mid.output.beat = ap (λ (o : Output). o.beat) output in
    record {
      sent = s.sent;
      entries = rw output s.entries;
      settled = record {
        old_still = rw same.old_works s.settled.old_still;
        fresh_still = rw same.fresh_works s.settled.fresh_still;
        no_olds = rw same.olds s.settled.no_olds;
        no_news = rw same.news s.settled.no_news;
      };
      split = ap (λ (x : Seam). x.merge.split) same.seam ∙ s.split;
      first = ap (λ (x : Seam). x.first) same.seam ∙ s.first;
      holds = λ schemas before after rows base below from entries m fed_below fed_from.
          moving-same schemas before after rows base below from (entries ++ results_of s.sent) mid
          new same beat_is
          (s.holds schemas before after rows base below from entries m fed_below fed_from);
      advances = λ schemas before after rows base below from entries m.
          subst (λ (n : ℕ). Advances old.output.beat n s.sent) (sym beat_is)
          (s.advances schemas before after rows base below from entries m);
      ends = s.ends;
    }

-- entries that are no results were made, where room was made before
pub tells : (old new : Moving) (mid : Output) (more : List Entry) → SameButOutput old new
    → results more ≡ [] → Adds old.output mid [] → Adds mid new.output more
    → ((kinds : List Kind) (answer : Answers) (entries : List Entry)
    → IsWritten kinds answer mid.beat entries
    → IsWritten kinds answer new.output.beat (entries ++ more))
    → Tells old new more
tells old new mid more same none first adds written = record {
  entries = adds.entries ∙ ap (λ (l : List Entry). l ++ more)
      (first.entries ∙ append-nil old.output.entries.items);
  settled = λ s. record {
    old_still = rw same.old_works s.old_still;
    fresh_still = rw same.fresh_works s.fresh_still;
    no_olds = rw same.olds s.no_olds;
    no_news = rw same.news s.no_news;
  };
  seam = same.seam;
  beat = adds.beat ∙ first.beat;
  holds = λ schemas before after rows base below from entries m.
      moving-more schemas before after rows base below from entries more old new same
      (adds.beat ∙ first.beat) none
      (λ w. written (kinds_of schemas before) (answer_of before rows) entries
      (rw first.beat w)) m;
}

pub tells-drain : (old new : Moving) (mid : Output) (inputs : ℕ) → SameButOutput old new
    → Adds old.output mid [] → Adds mid new.output (drained inputs mid.beat)
    → ((kinds : List Kind) (answer : Answers) (entries : List Entry)
    → IsWritten kinds answer mid.beat entries
    → IsWritten kinds answer new.output.beat (entries ++ drained inputs mid.beat))
    → Tells old new (drained inputs old.output.beat)
tells-drain old new mid inputs same first adds written =
    subst (λ (at : ℕ). Tells old new (drained inputs at)) first.beat
    (tells old new mid (drained inputs mid.beat) same refl first adds written)
