-- What came to the tops was written, or other entries, and entries were taken.
use Rattle.std.proofs.Common.{◌≡◌, ℕ, ◌≤◌, List, [], ◌++◌, sym, ap}
use Rattle.std.proofs.Common.{subst, ◌∙◌, arith, inl, inr, append-nil}
use Rattle.std.specs.List.{All}
use Rattle.std.proofs.lemmas.Bool.{cases_lt}
use Rattle.std.proofs.lemmas.List.Elements.{All-append, All-contains, All-same, All-weaker}
use Rattle.pipes_tuple.specs.declared.value.Kind.{Kind}
use Rattle.pipes_tuple.proofs.Bags.{SameBag-trans}
use Rattle.pipes_stream.specs.declared.Elem.{Elem}
use Rattle.pipes_stream.specs.declared.message.Message.{Message}
use Rattle.pipes_stream.specs.Lists.{beat, elements}
use Rattle.pipes_stream.specs.Lawful.{Lists, IsCovered}
use Rattle.pipes_seam.specs.declared.seam.Seam.{Seam}
use Rattle.pipes_plan.specs.declared.plan.Plan.{Plan}
use Rattle.pipes_output.specs.declared.entry.Entry.{Entry}
use Rattle.pipes_semantics.specs.Written.{results}
use Rattle.pipes_written.specs.Written.{results_of}
use Rattle.pipes_written.proofs.Splits.{results-append, results-map}
use Rattle.pipes_standing.specs.declared.standing.Standing.{Standing}
use Rattle.pipes_standing.specs.Calms.{Rows, AllFed, Calm}
use Rattle.pipes_standing.specs.Calms.{IsSettled as IsSettledAlone}
use Rattle.pipes_standing.specs.Calms.{Settles as SettlesAlone}
use Rattle.pipes_standing.specs.Calms.{Tells as TellsAlone}
use Rattle.pipes_moving.specs.declared.moving.Moving.{Moving as Between}
use Rattle.pipes_moving.specs.Moves.{IsMoving, FedBelow, split_of, first_of}
use Rattle.pipes_moving.specs.Steps.{IsSettled as IsSettledMoving}
use Rattle.pipes_moving.specs.Steps.{Settles as SettlesMoving}
use Rattle.pipes_moving.specs.Steps.{Tells as TellsMoving}
use Rattle.pipes_live.specs.declared.state.State.TheVariants as state
use Rattle.pipes_live.specs.declared.live.Live.{Live}
use Rattle.pipes_live.specs.Lives.{ArePartsOf, AreGiven, ResultsEnd, ServesAlone}
use Rattle.pipes_live.specs.Lives.{ServesMoving}
use Rattle.pipes_live.specs.Deeds.{SettlesIn, Settles, TellsIn, Tells, EmptiesIn, Empties}

-- parts end no later
pub parts-end : (all given : List Message) (instant : ℕ) → ArePartsOf all given
    → All (λ e. e.span.end ≤ instant) (elements all)
    → All (λ e. e.span.end ≤ instant) (elements given)
parts-end all given instant parts ends =
    All-weaker (IsCovered (elements all)) (λ (e : Elem). e.span.end ≤ instant)
    (λ e c. omega (
      arith,
      c.3,
      All-contains (λ (d : Elem). d.span.end ≤ instant) (elements all) c.0 ends c.1,
    )) (elements given) parts

-- results of what was sent
more-ends : (instant : ℕ) (entries : List Entry) (sent : List Message)
    → All (λ e. e.span.end ≤ instant) (results entries)
    → All (λ e. e.span.end ≤ instant) (elements sent)
    → All (λ e. e.span.end ≤ instant) (results (entries ++ results_of sent))
more-ends instant entries sent before now =
    All-same (λ (e : Elem). e.span.end ≤ instant) (results (entries ++ results_of sent))
    (results entries ++ elements sent)
    (results-append entries (results_of sent)
    ∙ ap (λ (es : List Elem). results entries ++ es) (results-map (elements sent)))
    (All-append (λ (e : Elem). e.span.end ≤ instant) (results entries) (elements sent) before now)

module _ (schemas : List (List Kind)) (query plan : Plan) (earlier : List Plan) (rows : Rows)
    (split : ℕ) (by_source : Lists) (entries : List Entry)
    (fed : AllFed schemas plan rows 0 by_source) where
  alone-settles : (old new : Standing) (t : SettlesAlone old new)
      → ServesAlone old schemas query plan rows split by_source entries
      → ServesAlone new schemas query plan rows split by_source (entries ++ results_of t.sent)
  alone-settles old new t s =
      let given_fed : AllFed schemas plan rows s.base s.given =
      (λ source t reads late within low.
      let g = (s.each source reads).so_far in let level = g.beat_is in
      SameBag-trans (g.same t late) (fed source t reads (omega arith) within
      (omega (arith, low, level)))) in
      let r = t.holds schemas plan rows s.base s.given s.got entries s.calm given_fed in
      record {
        base = s.base;
        given = s.given;
        got = r.0;
        calm = r.1;
        based = s.based;
        closes = s.closes;
        each = s.each;
        alike = s.alike;
        ends = λ instant all. more-ends instant entries t.sent (s.ends instant all)
            (t.ends schemas plan rows s.base s.given s.got entries s.calm instant
            (λ k reads. parts-end (by_source k) (s.given k) instant (s.each k reads).parts
            (all k reads)));
      }

  moving-settles : (old new : Between) (t : SettlesMoving old new)
      → ServesMoving old schemas query plan earlier rows split by_source entries
      → ServesMoving new schemas query plan earlier rows split by_source
      (entries ++ results_of t.sent)
  moving-settles old new t s =
      let fed_below : FedBelow schemas s.before rows s.base (split_of old) s.below =
      (λ source t reads late low within under.
      let own = (s.reads source).0 reads in
      let g = (s.each source own).sides.low in
      SameBag-trans (g.same t late low) (fed source t own (omega arith) within
      (elim (cases_lt (beat (by_source source)) (split_of old)) [
        | inl before ↦ (let level = g.beat_is before in omega (arith, under, level))
        | inr past ↦ omega (arith, low, past)
      ]))) in
      let fed_from : AllFed schemas plan rows (split_of old) s.from =
      (λ source t reads late within under.
      let g = (s.each source reads).sides.high in let level = g.beat_is in
      SameBag-trans (g.same t late) (fed source t reads (omega arith) within
      (omega (arith, under, level, late)))) in
      record {
        before = s.before;
        past = s.past;
        earlier_is = s.earlier_is;
        base = s.base;
        below = s.below;
        from = s.from;
        moving = t.holds schemas s.before plan rows s.base s.below s.from entries s.moving fed_below
            fed_from;
        split_is = t.split ∙ s.split_is;
        reads = s.reads;
        each = λ k reads.
            subst (λ (n : ℕ). AreGiven n s.base (first_of new) (by_source k) (s.below k) (s.from k))
            (sym t.split)
            (subst (λ (n : ℕ).
            AreGiven (split_of old) s.base n (by_source k) (s.below k) (s.from k))
            (sym t.first) (s.each k reads));
        alike = s.alike;
        ends = λ instant all. more-ends instant entries t.sent (s.ends instant all)
            (t.ends schemas s.before plan rows s.base s.below s.from entries s.moving instant
            (λ k reads. (let own = (s.reads k).0 reads in
            parts-end (by_source k) (s.below k) instant (s.each k own).low_parts (all k own)))
            (λ k reads. parts-end (by_source k) (s.from k) instant (s.each k reads).high_parts
            (all k reads)));
      }

pub settles-alone : (old new : Standing) → SettlesAlone old new
    → SettlesIn (state.Alone old) (state.Alone new)
settles-alone old new t = record {
  sent = t.sent;
  entries = t.entries;
  settled = t.settled;
  advances = λ schemas query plan earlier rows split by_source entries s.
      t.advances schemas plan rows s.base s.given s.got entries s.calm;
  holds = λ schemas query plan earlier rows split by_source entries s fed.
      alone-settles schemas query plan earlier rows split by_source entries fed old new t s;
}

pub settles-moving : (old new : Between) → SettlesMoving old new
    → SettlesIn (state.Moving old) (state.Moving new)
settles-moving old new t = record {
  sent = t.sent;
  entries = t.entries;
  settled = t.settled;
  advances = λ schemas query plan earlier rows split by_source entries s.
      t.advances schemas s.before plan rows s.base s.below s.from entries s.moving;
  holds = λ schemas query plan earlier rows split by_source entries s fed.
      moving-settles schemas query plan earlier rows split by_source entries fed old new t s;
}

pub settles-live : (old new : Live) → SettlesIn old.state new.state → new.sources ≡ old.sources
    → new.split ≡ old.split → Settles old new
settles-live old new t sources split = record {
  sent = t.sent;
  entries = t.entries;
  settled = t.settled;
  advances = λ schemas query plan earlier rows by_source entries s.
      t.advances schemas query plan earlier rows old.split by_source entries s.at_work;
  holds = λ schemas query plan earlier rows by_source entries s fed. record {
    at_work = rw split (t.holds schemas query plan earlier rows old.split by_source entries
        s.at_work fed);
    sources = rw sources s.sources;
  };
}

-- ---- entries that are no results

told-ends : (schemas : List (List Kind)) (plan : Plan) (by_source : Lists)
    (entries more : List Entry) → results more ≡ [] → ResultsEnd schemas plan by_source entries
    → ResultsEnd schemas plan by_source (entries ++ more)
told-ends schemas plan by_source entries more none ends instant all =
    All-same (λ (e : Elem). e.span.end ≤ instant) (results (entries ++ more)) (results entries)
    (results-append entries more ∙ ap (λ (es : List Elem). results entries ++ es) none
    ∙ append-nil (results entries)) (ends instant all)

pub tells-alone : (old new : Standing) (more : List Entry) → results more ≡ []
    → TellsAlone old new more → TellsIn (state.Alone old) (state.Alone new) more
tells-alone old new more none t = record {
  entries = t.entries;
  beat = t.beat;
  settled = t.settled;
  holds = λ schemas query plan earlier rows split by_source entries s. record {
    base = s.base;
    given = s.given;
    got = s.got;
    calm = t.holds schemas plan rows s.base s.given s.got entries s.calm;
    based = s.based;
    closes = s.closes;
    each = s.each;
    alike = s.alike;
    ends = told-ends schemas plan by_source entries more none s.ends;
  };
}

pub tells-moving : (old new : Between) (more : List Entry) → results more ≡ []
    → TellsMoving old new more → TellsIn (state.Moving old) (state.Moving new) more
tells-moving old new more none t = record {
  entries = t.entries;
  beat = t.beat;
  settled = t.settled;
  holds = λ schemas query plan earlier rows split by_source entries s. record {
    before = s.before;
    past = s.past;
    earlier_is = s.earlier_is;
    base = s.base;
    below = s.below;
    from = s.from;
    moving = t.holds schemas s.before plan rows s.base s.below s.from entries s.moving;
    split_is = ap (λ (x : Seam). x.merge.split) t.seam ∙ s.split_is;
    reads = s.reads;
    each = rw t.seam s.each;
    alike = s.alike;
    ends = told-ends schemas plan by_source entries more none s.ends;
  };
}

pub tells-live : (old new : Live) (more : List Entry) → TellsIn old.state new.state more
    → new.sources ≡ old.sources → new.split ≡ old.split → Tells old new more
tells-live old new more t sources split = record {
  entries = t.entries;
  beat = t.beat;
  settled = t.settled;
  holds = λ schemas query plan earlier rows by_source entries s. record {
    at_work = rw split (t.holds schemas query plan earlier rows old.split by_source entries
        s.at_work);
    sources = rw sources s.sources;
  };
}

-- ---- the entries were taken

pub empties-alone : (old new : Standing) → new.output.entries.items ≡ []
    → new.output.beat ≡ old.output.beat → (IsSettledAlone old → IsSettledAlone new)
    → ((schemas : List (List Kind)) (plan : Plan) (rows : Rows) (base : ℕ) (given : Lists)
    (got : List Message) (entries : List Entry)
    → Calm old schemas plan rows base given got entries
    → Calm new schemas plan rows base given got entries)
    → EmptiesIn (state.Alone old) (state.Alone new)
empties-alone old new none beat_is settled calm = record {
  none = none;
  beat = beat_is;
  settled = settled;
  holds = λ schemas query plan earlier rows split by_source entries s. record {
    base = s.base;
    given = s.given;
    got = s.got;
    calm = calm schemas plan rows s.base s.given s.got entries s.calm;
    based = s.based;
    closes = s.closes;
    each = s.each;
    alike = s.alike;
    ends = s.ends;
  };
}

pub empties-moving : (old new : Between) → new.output.entries.items ≡ []
    → new.output.beat ≡ old.output.beat → new.seam ≡ old.seam
    → (IsSettledMoving old → IsSettledMoving new)
    → ((schemas : List (List Kind)) (before after : Plan) (rows : Rows) (base : ℕ)
    (below from : Lists) (entries : List Entry)
    → IsMoving old schemas before after rows base below from entries
    → IsMoving new schemas before after rows base below from entries)
    → EmptiesIn (state.Moving old) (state.Moving new)
empties-moving old new none beat_is seam settled moves = record {
  none = none;
  beat = beat_is;
  settled = settled;
  holds = λ schemas query plan earlier rows split by_source entries s. record {
    before = s.before;
    past = s.past;
    earlier_is = s.earlier_is;
    base = s.base;
    below = s.below;
    from = s.from;
    moving = moves schemas s.before plan rows s.base s.below s.from entries s.moving;
    split_is = ap (λ (x : Seam). x.merge.split) seam ∙ s.split_is;
    reads = s.reads;
    each = rw seam s.each;
    alike = s.alike;
    ends = s.ends;
  };
}

pub empties-live : (old new : Live) → EmptiesIn old.state new.state → new.sources ≡ old.sources
    → new.split ≡ old.split → Empties old new
empties-live old new t sources split = record {
  none = t.none;
  beat = t.beat;
  settled = t.settled;
  holds = λ schemas query plan earlier rows by_source entries s. record {
    at_work = rw split (t.holds schemas query plan earlier rows old.split by_source entries
        s.at_work);
    sources = rw sources s.sources;
  };
}
