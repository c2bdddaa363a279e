-- What a call leaves of a standing query.
use Rattle.std.proofs.Common.{◌≡◌, ℕ, ◌≤◌, ◌<◌, List, [], ◌++◌, unwrap_or}
use Rattle.std.proofs.Common.{Option, refl, sym, ◌∙◌, ap, subst, arith, append_assoc}
use Rattle.std.proofs.Common.{append-nil}
use Rattle.std.proofs.Common.{◌∷◌, inl, inr, Bool, true, false}
use Rattle.std.specs.List.{All}
use Rattle.std.proofs.lemmas.List.Elements.{All-weaker, All-contains}
use Rattle.pipes_time.specs.Interval.{closed}
use Rattle.pipes_tuple.specs.declared.value.Value.{Value}
use Rattle.pipes_tuple.specs.declared.value.Kind.{Kind}
use Rattle.pipes_tuple.specs.Kinds.{Fits}
use Rattle.pipes_tuple.specs.Bag.{SameBag}
use Rattle.pipes_tuple.proofs.Bags.{SameBag-refl, SameBag-trans, SameBag-append}
use Rattle.pipes_stream.specs.declared.Elem.{Elem}
use Rattle.pipes_stream.specs.declared.message.Message.{Message}
use Rattle.pipes_stream.specs.Progress.{Progress}
use Rattle.pipes_stream.specs.Snapshot.{snapshot}
use Rattle.pipes_stream.specs.Lists.{run, start_of_list, Valid, ValidFrom, beat, elements}
use Rattle.pipes_stream.specs.Lawful.{Lists, no_messages}
use Rattle.pipes_stream.proofs.Messages.{run-append, run-rises, valid-prefix, valid-suffix}
use Rattle.pipes_stream.proofs.Messages.{elements-append, beat-closed, beat-ended}
use Rattle.pipes_stream.proofs.Ports.{All-parts}
use Rattle.pipes_stream.proofs.Snapshots.{snapshot-append, starts-from}
use Rattle.pipes_plan.specs.declared.plan.Plan.{Plan}
use Rattle.pipes_plan.specs.PlanKinds.{IsTyped}
use Rattle.pipes_output.specs.declared.entry.Entry.{Entry}
use Rattle.pipes_semantics.specs.Written.{results}
use Rattle.pipes_output.specs.declared.entry.Entry.TheVariants as entry
use Rattle.pipes_box.specs.Boxes.{IsStill}
use Rattle.pipes_works.specs.Sources.{AnswersSources, KeepsUpWithSources, AllReached}
use Rattle.pipes_works.specs.Sources.{IsCoveredBySource}
use Rattle.pipes_works.specs.Standing.{WorksStand, MayCome, Puts}
use Rattle.pipes_written.specs.declared.output.Output.{Output}
use Rattle.pipes_written.specs.Written.{Answers, IsWritten, Continues, results_of, level_after}
use Rattle.pipes_written.specs.Made.{Made, Adds, TellsMove, last_entry, drained}
use Rattle.pipes_written.proofs.Splits.{results-append, results-map}
use Rattle.pipes_written.proofs.Writes.{level-is}
use Rattle.pipes_standing.specs.declared.standing.Standing.{Standing}
use Rattle.pipes_standing.specs.Calms.{Rows, AllFed, AllEndBy, answer_of, kinds_of, Calm}
use Rattle.pipes_standing.specs.Calms.{IsUpToDate, TakesIn, Advances, Settles}
use Rattle.pipes_standing.specs.Calms.{Tells}

-- bags of which both parts are the same
both-same : (a b c d : List Elem) (t : ℕ) → SameBag (snapshot a t) (snapshot b t) → c ≡ d
    → SameBag (snapshot (a ++ c) t) (snapshot (b ++ d) t)
both-same a b c d t same e =
    subst (λ (xs : List (List Value)). SameBag xs (snapshot (b ++ d) t))
    (sym (snapshot-append a c t))
    (subst (SameBag (snapshot a t ++ snapshot c t)) (sym (snapshot-append b d t))
    (SameBag-append same (subst (λ (xs : List Elem). SameBag (snapshot c t) (snapshot xs t)) e
    (SameBag-refl (snapshot c t)))))

-- what comes to the top ends no later than what the sources gave
pub top-ends : (schemas : List (List Kind)) (plan : Plan) (by_source : Lists) (got : List Message)
    (instant : ℕ) → AnswersSources schemas plan by_source got
    → AllEndBy schemas plan instant by_source → All (λ e. e.span.end ≤ instant) (elements got)
top-ends schemas plan by_source got instant answers ends =
    All-weaker (IsCoveredBySource schemas plan by_source) (λ (e : Elem). e.span.end ≤ instant)
    (λ e c. omega (
      arith,
      c.2.3,
      All-contains (λ (d : Elem). d.span.end ≤ instant) (elements (by_source c.0)) c.2.0
          (ends c.0 c.1) c.2.1,
    )) (elements got) answers.spans

-- what may be sent to the output starts where that is or later
pub sent-advances : (p : Progress) (sent : List Message) (was now : ℕ) → ValidFrom p sent
    → p.beat ≤ closed → p.beat ≡ was → now ≡ level_after was sent → Advances was now sent
sent-advances p sent was now valid most here there =
    let up = (run-rises p sent valid most).0 in
    let level = level-is p was sent here in record {
      rises = omega (arith, here, up, level, there);
      starts = All-weaker (λ (e : Elem). p.beat ≤ e.span.start) (λ (e : Elem). was ≤ e.span.start)
          (λ e from. omega (arith, here, from)) (elements sent) (starts-from p sent valid most);
    }

module _ (schemas : List (List Kind)) (plan : Plan) (rows : Rows) (base : ℕ) (by_source : Lists)
    (got : List Message) (entries : List Entry) (old : Standing)
    (calm : Calm old schemas plan rows base by_source got entries)
    (fed : AllFed schemas plan rows base by_source) (more : List Message)
    (answers : AnswersSources schemas plan by_source (got ++ more))
    (reached : AllReached schemas plan by_source (beat (got ++ more))) where
  abbrev Sent : List Message
  Sent = old.sent.items ++ more

  abbrev Now : List Message
  Now = got ++ more

  all-seen : Now ≡ calm.seen ++ Sent
  all-seen = ap (λ (l : List Message). l ++ more) calm.got_is
      ∙ append_assoc calm.seen old.sent.items more

  valid-seen : Valid (calm.seen ++ Sent)
  valid-seen = subst Valid all-seen answers.valid

  level : level_after old.output.beat Sent ≡ beat Now
  level = sym (level-is (run start_of_list calm.seen) old.output.beat Sent (sym calm.beat_is))
      ∙ ap (λ (p : Progress). p.beat) (sym (run-append start_of_list calm.seen Sent))
      ∙ ap beat (sym all-seen)

  elements-seen : elements calm.seen ++ elements Sent ≡ elements Now
  elements-seen = sym (elements-append calm.seen Sent) ∙ ap elements (sym all-seen)

  fits-now : All (λ e. Fits e.tuple (kinds_of schemas plan)) (elements Now)
  fits-now =
      let e : kinds_of schemas plan ≡ calm.typed.schema =
      ap (λ (o : Option (List Kind)). unwrap_or o []) calm.typed.is in
      subst (λ (k : List Kind). All (λ e. Fits e.tuple k) (elements Now)) (sym e)
      (answers.fits calm.typed.schema calm.typed.is)

  shown-now : (t : ℕ) → base ≤ t
      → SameBag (snapshot (results entries ++ elements Sent) t) (snapshot (elements Now) t)
  shown-now t from =
      subst (λ (es : List Elem). SameBag (snapshot (results entries ++ elements Sent) t)
      (snapshot es t)) elements-seen
      (both-same (results entries) (elements calm.seen) (elements Sent) (elements Sent) t
      (calm.shown t from) refl)

  pub continues : Continues (kinds_of schemas plan) (answer_of plan rows) old.output.beat entries
      Sent
  continues = record {
    so_far = run start_of_list calm.seen;
    there = sym calm.beat_is;
    valid = valid-suffix start_of_list calm.seen Sent valid-seen;
    fits = (All-parts (λ (e : Elem). Fits e.tuple (kinds_of schemas plan)) (elements calm.seen)
        (elements Sent) (subst (All (λ e. Fits e.tuple (kinds_of schemas plan)))
        (sym elements-seen) fits-now)).1;
    right = λ t from before within.
        let below : t < beat Now = omega (arith, before, level) in
        let late : base ≤ t = omega (arith, from, calm.based) in
        SameBag-trans (shown-now t late)
        (answers.answer t (rows t) below
        (λ source reads. fed source t reads late within
        (omega (arith, below, reached source reads))));
  }

  pub calm-settled : (new : Standing) → new.sent.items ≡ []
      → new.output.beat ≡ level_after old.output.beat Sent
      → WorksStand new.works schemas plan by_source Now
      → IsWritten (kinds_of schemas plan) (answer_of plan rows) new.output.beat
      (entries ++ results_of Sent)
      → Calm new schemas plan rows base by_source Now (entries ++ results_of Sent)
  calm-settled new empty beat_is works written =
      let rises = run-rises (run start_of_list calm.seen) Sent
      (valid-suffix start_of_list calm.seen Sent valid-seen)
      (beat-closed calm.seen (valid-prefix start_of_list calm.seen Sent valid-seen)) in
      let up : beat calm.seen ≤ (run (run start_of_list calm.seen) Sent).beat = rises.0 in
      let there : (run (run start_of_list calm.seen) Sent).beat
      ≡ level_after old.output.beat Sent =
      level-is (run start_of_list calm.seen) old.output.beat Sent (sym calm.beat_is) in
      let all : results (entries ++ results_of Sent) ≡ results entries ++ elements Sent =
      results-append entries (results_of Sent)
      ∙ ap (λ (es : List Elem). results entries ++ es) (results-map (elements Sent)) in
      record {
        typed = calm.typed;
        works = works;
        seen = Now;
        got_is = sym (append-nil Now) ∙ ap (λ (l : List Message). Now ++ l) (sym empty);
        beat_is = beat_is ∙ level;
        written = written;
        based = omega (arith, calm.based, calm.beat_is, up, there, beat_is);
        shown = λ t from. subst (λ (es : List Elem). SameBag (snapshot es t)
            (snapshot (elements Now) t)) (sym all) (shown-now t from);
      }

-- entries that are no results were made
pub calm-more : (schemas : List (List Kind)) (plan : Plan) (rows : Rows) (base : ℕ)
    (by_source : Lists) (got : List Message) (entries more : List Entry) (old new : Standing)
    → new.works ≡ old.works → new.sent ≡ old.sent → new.output.beat ≡ old.output.beat
    → results more ≡ []
    → (IsWritten (kinds_of schemas plan) (answer_of plan rows) old.output.beat entries
    → IsWritten (kinds_of schemas plan) (answer_of plan rows) new.output.beat (entries ++ more))
    → Calm old schemas plan rows base by_source got entries
    → Calm new schemas plan rows base by_source got (entries ++ more)
calm-more schemas plan rows base by_source got entries more old new works sent beat_is none written
    calm =
    let same : results (entries ++ more) ≡ results entries = results-append entries more
    ∙ ap (λ (es : List Elem). results entries ++ es) none ∙ append-nil (results entries) in
    record {
      typed = calm.typed;
      works = rw works calm.works;
      seen = calm.seen;
      got_is = rw sent calm.got_is;
      beat_is = beat_is ∙ calm.beat_is;
      written = written calm.written;
      based = omega (arith, calm.based, beat_is);
      shown = λ t from. subst (λ (es : List Elem). SameBag (snapshot es t)
          (snapshot (elements calm.seen) t)) (sym same) (calm.shown t from);
    }

-- how far the output has come, once all is written
pub calm-up_to_date : (schemas : List (List Kind)) (plan : Plan) (rows : Rows) (base : ℕ)
    (by_source : Lists) (got : List Message) (entries : List Entry) (s : Standing)
    → s.sent.items ≡ [] → Calm s schemas plan rows base by_source got entries
    → AnswersSources schemas plan by_source got → KeepsUpWithSources schemas plan by_source got
    → IsUpToDate schemas plan by_source s.output.beat
calm-up_to_date schemas plan rows base by_source got entries s empty calm answers keeps =
    let all : got ≡ calm.seen = calm.got_is ∙ ap (λ (l : List Message). calm.seen ++ l) empty
    ∙ append-nil calm.seen in
    let there : beat got ≡ s.output.beat = ap beat all ∙ sym calm.beat_is in
    record {
      below = λ source reads. omega (arith, keeps.below source reads, there);
      above = λ h es reached within. omega (arith, keeps.above h es reached within, there);
      prompt = λ none h reached. omega (arith, keeps.prompt none h reached, there);
      ends = λ ended. sym there ∙ beat-ended got answers.valid (keeps.ends ended);
    }

-- nothing has come
pub calm-new : (s : Standing) (schemas : List (List Kind)) (plan : Plan) (rows : Rows)
    → IsTyped plan schemas → WorksStand s.works schemas plan no_messages [] → s.sent.items ≡ []
    → s.output.beat ≡ 0
    → ((kinds : List Kind) (answer : Answers) → IsWritten kinds answer s.output.beat [])
    → Calm s schemas plan rows 0 no_messages [] []
calm-new s schemas plan rows typed works empty start written = record {
  typed = typed;
  works = works;
  seen = [];
  got_is = sym empty;
  beat_is = start;
  written = written (kinds_of schemas plan) (answer_of plan rows);
  based = omega arith;
  shown = λ t from. SameBag-refl [];
}

-- the entries were taken
pub calm-same : (schemas : List (List Kind)) (plan : Plan) (rows : Rows) (base : ℕ)
    (by_source : Lists) (got : List Message) (entries : List Entry) (old new : Standing)
    → new.works ≡ old.works → new.sent ≡ old.sent → new.output.beat ≡ old.output.beat
    → Calm old schemas plan rows base by_source got entries
    → Calm new schemas plan rows base by_source got entries
calm-same schemas plan rows base by_source got entries old new works sent beat_is calm = record {
  typed = calm.typed;
  works = rw works calm.works;
  seen = calm.seen;
  got_is = rw sent calm.got_is;
  beat_is = beat_is ∙ calm.beat_is;
  written = rw beat_is calm.written;
  based = omega (arith, calm.based, beat_is);
  shown = calm.shown;
}

-- a message was taken in
pub takes-in : (old new : Standing) (source : ℕ) (m : Message)
    → Puts old.works new.works source m old.sent.items new.sent.items
    → new.output ≡ old.output → MayCome old.works source m → TakesIn old new source m
takes-in old new source m puts output may = record {
  entries = ap (λ (o : Output). o.entries.items) output
      ∙ sym (append-nil old.output.entries.items);
  beat = ap (λ (o : Output). o.beat) output;
  more = puts.more;
  taken_in = λ came schemas plan rows base by_source got entries calm. record {
    typed = calm.typed;
    works = puts.stands schemas plan by_source got calm.works;
    seen = calm.seen;
    got_is = ap (λ (l : List Message). l ++ puts.more) calm.got_is
        ∙ append_assoc calm.seen old.sent.items puts.more
        ∙ ap (λ (l : List Message). calm.seen ++ l) (sym puts.appended);
    beat_is = ap (λ (o : Output). o.beat) output ∙ calm.beat_is;
    written = rw output calm.written;
    based = rw output calm.based;
    shown = calm.shown;
  };
  passed_over = λ not. absurd (not may);
  may = inl may;
}

pub passes-over : (s : Standing) (source : ℕ) (m : Message) → (MayCome s.works source m → ⊥)
    → TakesIn s s source m
passes-over s source m not = record {
  entries = sym (append-nil s.output.entries.items);
  beat = refl;
  more = [];
  taken_in = λ may. absurd (not may);
  passed_over = λ _. refl;
  may = inr not;
}

-- all that came is written
pub settles : (old new : Standing) (more sent : List Message) → sent ≡ old.sent.items ++ more
    → ((schemas : List (List Kind)) (plan : Plan) (by_source : Lists) (got : List Message)
    → WorksStand old.works schemas plan by_source got
    → WorksStand new.works schemas plan by_source (got ++ more))
    → ((schemas : List (List Kind)) (plan : Plan) (by_source : Lists) (got : List Message)
    → WorksStand new.works schemas plan by_source got
    → AnswersSources schemas plan by_source got)
    → ((schemas : List (List Kind)) (plan : Plan) (by_source : Lists) (got : List Message)
    → WorksStand new.works schemas plan by_source got
    → KeepsUpWithSources schemas plan by_source got)
    → IsStill new.works.plan_box → new.sent.items ≡ [] → Made old.output new.output sent
    → ((kinds : List Kind) (answer : Answers) (entries : List Entry)
    → IsWritten kinds answer old.output.beat entries
    → Continues kinds answer old.output.beat entries sent
    → IsWritten kinds answer new.output.beat (entries ++ results_of sent))
    → Settles old new
settles old new more sent is works answers keeps still empty made written = record {
  sent = sent;
  entries = made.entries;
  settled = record { still = still; nothing_sent = empty };
  holds = λ schemas plan rows base by_source got entries calm fed.
      let stands = works schemas plan by_source got calm.works in
      let answer = answers schemas plan by_source (got ++ more) stands in
      let reached = (keeps schemas plan by_source (got ++ more) stands).below in
      let all : List Message = old.sent.items ++ more in
      let before : IsWritten (kinds_of schemas plan) (answer_of plan rows) new.output.beat
      (entries ++ results_of all) =
      subst (λ (l : List Message). IsWritten (kinds_of schemas plan) (answer_of plan rows)
      new.output.beat (entries ++ results_of l)) is
      (written (kinds_of schemas plan) (answer_of plan rows) entries calm.written
      (subst (Continues (kinds_of schemas plan) (answer_of plan rows) old.output.beat entries)
      (sym is) (continues schemas plan rows base by_source got entries old calm fed more answer
      reached))) in
      let now = calm-settled schemas plan rows base by_source got entries old calm fed more answer
      reached new empty (made.beat ∙ ap (level_after old.output.beat) is) stands before in (
        got ++ more,
        subst (λ (l : List Message). Calm new schemas plan rows base by_source (got ++ more)
            (entries ++ results_of l)) (sym is) now,
      );
  advances = λ schemas plan rows base by_source got entries calm.
      let valid : Valid (calm.seen ++ sent) = subst Valid (parts calm)
      (answers schemas plan by_source (got ++ more)
      (works schemas plan by_source got calm.works)).valid in
      sent-advances (run start_of_list calm.seen) sent old.output.beat new.output.beat
      (valid-suffix start_of_list calm.seen sent valid)
      (beat-closed calm.seen (valid-prefix start_of_list calm.seen sent valid))
      (sym calm.beat_is) made.beat;
  ends = λ schemas plan rows base by_source got entries calm instant ends.
      let all = top-ends schemas plan by_source (got ++ more) instant
      (answers schemas plan by_source (got ++ more)
      (works schemas plan by_source got calm.works)) ends in
      (All-parts (λ (e : Elem). e.span.end ≤ instant) (elements calm.seen) (elements sent)
      (subst (All (λ e. e.span.end ≤ instant))
      (ap elements (parts calm) ∙ elements-append calm.seen sent) all)).1;
}
  where
    parts : {schemas : List (List Kind)} {plan : Plan} {rows : Rows} {base : ℕ}
        {by_source : Lists} {got : List Message} {entries : List Entry}
        → (calm : Calm old schemas plan rows base by_source got entries)
        → got ++ more ≡ calm.seen ++ sent
    parts calm = ap (λ (l : List Message). l ++ more) calm.got_is
        ∙ append_assoc calm.seen old.sent.items more
        ∙ ap (λ (l : List Message). calm.seen ++ l) (sym is)

pub no-result : (e : Entry) → TellsMove e → results (e ∷ []) ≡ []
no-result (entry.Result e) t = absurd t
no-result (entry.Beat h) t = absurd t
no-result (entry.Accepted number split) t = refl
no-result (entry.Refused command why) t = refl
no-result (entry.Idle number) t = refl
no-result (entry.Over number) t = refl
no-result (entry.Drained inputs output) t = absurd t
no-result entry.Ended t = absurd t
no-result entry.Stopped t = absurd t

pub no-end : (stopped : Bool) → results (last_entry stopped ∷ []) ≡ []
no-end true = refl
no-end false = refl

-- entries that are no results were made, where room was made before
pub tells : (old new : Standing) (mid : Output) (more : List Entry) → new.works ≡ old.works
    → new.sent ≡ old.sent → results more ≡ [] → Adds old.output mid [] → Adds mid new.output more
    → ((kinds : List Kind) (answer : Answers) (entries : List Entry)
    → IsWritten kinds answer mid.beat entries
    → IsWritten kinds answer new.output.beat (entries ++ more))
    → Tells old new more
tells old new mid more works sent none first adds written = record {
  entries = adds.entries ∙ ap (λ (l : List Entry). l ++ more)
      (first.entries ∙ append-nil old.output.entries.items);
  settled = λ s. record { still = rw works s.still; nothing_sent = rw sent s.nothing_sent };
  beat = adds.beat ∙ first.beat;
  holds = λ schemas plan rows base by_source got entries calm.
      calm-more schemas plan rows base by_source got entries more old new works sent
      (adds.beat ∙ first.beat) none
      (λ w. written (kinds_of schemas plan) (answer_of plan rows) entries (rw first.beat w)) calm;
}

pub tells-drain : (old new : Standing) (mid : Output) (inputs : ℕ) → new.works ≡ old.works
    → new.sent ≡ old.sent → Adds old.output mid [] → Adds mid new.output (drained inputs mid.beat)
    → ((kinds : List Kind) (answer : Answers) (entries : List Entry)
    → IsWritten kinds answer mid.beat entries
    → IsWritten kinds answer new.output.beat (entries ++ drained inputs mid.beat))
    → Tells old new (drained inputs old.output.beat)
tells-drain old new mid inputs works sent first adds written =
    subst (λ (at : ℕ). Tells old new (drained inputs at)) first.beat
    (tells old new mid (drained inputs mid.beat) works sent refl first adds written)
