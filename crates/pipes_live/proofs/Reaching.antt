-- How far the output has come, once all that came is written.
use Rattle.std.proofs.Common.{◌≡◌, ℕ, zero, suc, ◌+◌, ◌≤◌, ◌<◌, List, [], ◌∷◌, length}
use Rattle.std.proofs.Common.{refl, sym, subst, arith, inl, inr}
use Rattle.std.specs.List.{All}
use Rattle.std.proofs.lemmas.Bool.{cases_lt}
use Rattle.std.proofs.lemmas.List.Elements.{All-weaker, All-contains}
use Rattle.pipes_time.specs.Interval.{closed}
use Rattle.pipes_tuple.specs.declared.value.Kind.{Kind}
use Rattle.pipes_stream.specs.declared.Elem.{Elem}
use Rattle.pipes_stream.specs.declared.message.Message.{Message}
use Rattle.pipes_stream.specs.Lists.{Valid, beat, elements}
use Rattle.pipes_stream.specs.Lawful.{Lists, IsCovered, least}
use Rattle.pipes_stream.proofs.Messages.{beat-closed, beat-ended}
use Rattle.pipes_plan.specs.declared.plan.Plan.{Plan}
use Rattle.pipes_output.specs.declared.entry.Entry.{Entry}
use Rattle.pipes_box.specs.Boxes.{all_held}
use Rattle.pipes_box.specs.Shapes.{shape_of}
use Rattle.pipes_box.specs.Prompt.{lag_of, floors}
use Rattle.pipes_works.specs.Sources.{Reads, AllReached, AllWithin, AllSourcesEnded}
use Rattle.pipes_told.specs.Pacing.{steepest}
use Rattle.pipes_told.specs.Steep.{steep}
use Rattle.pipes_told.proofs.Floors.{floors-turns}
use Rattle.pipes_told.proofs.Lags.{lag-steep}
use Rattle.pipes_standing.specs.declared.standing.Standing.{Standing}
use Rattle.pipes_standing.specs.Calms.{Rows, IsUpToDate}
use Rattle.pipes_moving.specs.declared.moving.Moving.{Moving as Between}
use Rattle.pipes_moving.specs.Moves.{IsNoFurther, lag_between, split_of}
use Rattle.pipes_moving.proofs.Beginning.{count-is}
use Rattle.pipes_moving.proofs.Tops.{all_time, all-covers, all-floors}
use Rattle.pipes_live.specs.declared.state.State.TheVariants as state
use Rattle.pipes_live.specs.declared.live.Live.{Live}
use Rattle.pipes_live.specs.Lives.{ArePartsOf, ServesAlone, ServesMoving, count_in}
use Rattle.pipes_live.specs.Deeds.{ReachesIn, Reaches}
use Rattle.pipes_live.proofs.Reading.{reads-within}

-- ---- lists

-- parts are covered by what covers the whole
parts-covered : (all given : List Message) (es : List Elem) → ArePartsOf all given
    → All (IsCovered es) (elements all) → All (IsCovered es) (elements given)
parts-covered all given es parts within =
    All-weaker (IsCovered (elements all)) (IsCovered es) (λ e c.
    let d : IsCovered es c.0 = All-contains (IsCovered es) (elements all) c.0 within c.1 in
    (d.0, d.1, omega (arith, d.2, c.2), omega (arith, d.3, c.3))) (elements given) parts

least-below : (count : ℕ) (lists : Lists) (source : ℕ) → source < count
    → least count lists ≤ beat (lists source)
least-below zero lists source l = absurd (omega (arith, l))
least-below (suc count) lists source l = elim (cases_lt source count) [
  | inl low ↦ (let rest = least-below count lists source low in omega (arith, rest))
  | inr high ↦ (let same : source ≡ count = omega (arith, l, high) in
      subst (λ (k : ℕ). least (suc count) lists ≤ beat (lists k)) (sym same) (omega arith))
]

-- ---- how often elements may keep the output back

steeper : (schemas : List (List Kind)) (plan : Plan) (earlier : List Plan)
    → lag_of (shape_of schemas plan) ≤ steepest steep (plan ∷ earlier)
steeper schemas plan earlier = let is = lag-steep schemas plan in omega (arith, is)

steeper-both : (schemas : List (List Kind)) (before plan : Plan) (past : List Plan)
    → lag_between schemas before plan ≤ steepest steep (plan ∷ before ∷ past) + 1
steeper-both schemas before plan past =
    let old = lag-steep schemas before in let new = lag-steep schemas plan in
    omega (arith, old, new)

-- ---- one plan

module _ (s : Standing) (schemas : List (List Kind)) (query plan : Plan) (earlier : List Plan)
    (rows : Rows) (split : ℕ) (by_source : Lists) (entries : List Entry)
    (a : ServesAlone s schemas query plan rows split by_source entries)
    (up : IsUpToDate schemas plan a.given s.output.beat) where
  given-reached : (h : ℕ) → AllReached schemas plan by_source h → AllReached schemas plan a.given h
  given-reached h reached k reads = let level = (a.each k reads).so_far.beat_is in
      omega (arith, level, reached k reads)

  pub reaches-alone : ReachesIn (state.Alone s) schemas plan earlier split by_source
  reaches-alone = record {
    below = λ k reads. (let level = (a.each k reads).so_far.beat_is in
        omega (arith, level, up.below k reads));
    far = λ h es reached within. omega (
      arith,
      floors-turns (steepest steep (plan ∷ earlier) + 1) (lag_of (shape_of schemas plan)) h es
          (omega (arith, steeper schemas plan earlier)),
      up.above h es (given-reached h reached)
          (λ k reads. parts-covered (by_source k) (a.given k) es (a.each k reads).parts
          (within k reads)),
    );
    ends = λ reached. omega (
      arith,
      all-floors (lag_of (shape_of schemas plan)),
      up.above closed (all_time ∷ []) (given-reached closed reached)
          (λ k reads. all-covers (a.given k) (a.each k reads).so_far.valid),
      a.calm.written.bounded,
    );
    within = λ k reads. omega (
      arith,
      count-is s.works schemas plan a.given a.got a.calm.works,
      reads-within schemas plan k a.calm.typed reads,
    );
    keeps_none = λ reached. refl;
  }

-- ---- two plans

module _ (m : Between) (schemas : List (List Kind)) (query plan : Plan) (earlier : List Plan)
    (rows : Rows) (split : ℕ) (by_source : Lists) (entries : List Entry)
    (a : ServesMoving m schemas query plan earlier rows split by_source entries)
    (valid : (source : ℕ) → Valid (by_source source)) where
  low-reached : (h : ℕ) → h ≤ closed → AllReached schemas plan by_source h
      → AllReached schemas a.before a.below h
  low-reached h most reached k reads =
      let own : Reads schemas plan k = (a.reads k).0 reads in
      let g = (a.each k own).sides.low in
      elim (cases_lt (beat (by_source k)) (split_of m)) [
        | inl before ↦ (let level = g.beat_is before in omega (arith, level, reached k own))
        | inr past ↦ (let end = beat-ended (a.below k) g.valid (g.past past) in
            omega (arith, end, most))
      ]

  high-reached : (h : ℕ) → AllReached schemas plan by_source h
      → AllReached schemas plan a.from h
  high-reached h reached k reads = let level = (a.each k reads).sides.high.beat_is in
      omega (arith, level, reached k reads)

  -- a heartbeat that all sources have reached is none above the end, if there are any
  low-any : (h : ℕ) → AllReached schemas plan by_source h → AllReached schemas a.before a.below h
  low-any h reached k reads =
      let own : Reads schemas plan k = (a.reads k).0 reads in
      low-reached h (omega (arith, reached k own, beat-closed (by_source k) (valid k))) reached k
      reads

  low-ended : AllReached schemas plan by_source split → AllSourcesEnded schemas a.before a.below
  low-ended reached k reads =
      let own : Reads schemas plan k = (a.reads k).0 reads in
      (a.each k own).sides.low.past (omega (arith, reached k own, a.split_is))

  pub reaches-moving : IsNoFurther m schemas a.before plan a.below a.from
      → ((h : ℕ) (es : List Elem) → AllReached schemas a.before a.below h
      → AllReached schemas plan a.from h → AllWithin schemas a.before a.below es
      → AllWithin schemas plan a.from es
      → floors (lag_between schemas a.before plan) h es ≤ m.output.beat)
      → (AllReached schemas a.before a.below closed → AllReached schemas plan a.from closed
      → m.output.beat ≡ closed)
      → (AllSourcesEnded schemas a.before a.below → all_held m.old_works.plan_box ≡ 0)
      → ReachesIn (state.Moving m) schemas plan earlier split by_source
  reaches-moving near far ends none = record {
    below = λ k reads.
        let g = a.each k reads in
        let own : Reads schemas a.before k = (a.reads k).1 reads in
        elim (cases_lt (beat (by_source k)) (split_of m)) [
          | inl low ↦ (let level = g.sides.low.beat_is low in
              omega (arith, near.old k own, level, g.begun))
          | inr high ↦ (let level = g.sides.high.beat_is in
              omega (arith, near.fresh k reads, level, g.begun, high))
        ];
    far = λ h es reached within. omega (
      arith,
      floors-turns (steepest steep (plan ∷ earlier) + 1) (lag_between schemas a.before plan) h es
          (subst (λ (ps : List Plan).
          lag_between schemas a.before plan ≤ steepest steep (plan ∷ ps) + 1) (sym a.earlier_is)
          (steeper-both schemas a.before plan a.past)),
      far h es (low-any h reached) (high-reached h reached)
          (λ k reads. (let own = (a.reads k).0 reads in
          parts-covered (by_source k) (a.below k) es (a.each k own).low_parts (within k own)))
          (λ k reads. parts-covered (by_source k) (a.from k) es (a.each k reads).high_parts
          (within k reads)),
    );
    ends = λ reached. ends (low-any closed reached) (high-reached closed reached);
    within = λ k reads. omega (
      arith,
      count-is m.fresh_works schemas plan a.from a.moving.fresh_got a.moving.fresh,
      reads-within schemas plan k a.moving.typed_fresh reads,
    );
    keeps_none = λ reached. none (low-ended reached);
  }

-- ---- with the heartbeat of the inputs

pub reaches-live : (l : Live) (schemas : List (List Kind)) (plan : Plan) (earlier : List Plan)
    (by_source : Lists)
    → count_in l.state ≡ length l.sources.items → l.split ≤ closed
    → ReachesIn l.state schemas plan earlier l.split by_source
    → Reaches l schemas plan earlier (least (length l.sources.items) by_source) by_source
reaches-live l schemas plan earlier by_source count most r = record {
  below = r.below;
  within = λ k reads. inside k reads;
  reached = λ k reads. least-below (length l.sources.items) by_source k (inside k reads);
  far = λ es within. r.far (least (length l.sources.items) by_source) es
      (λ k reads. least-below (length l.sources.items) by_source k (inside k reads)) within;
  ends = λ end. r.ends (λ k reads. omega (
    arith,
    end,
    least-below (length l.sources.items) by_source k (inside k reads),
  ));
  passes = λ over. elim over [
    | inl both ↦ record {
      reached = λ k reads. omega (
        arith,
        both.0,
        least-below (length l.sources.items) by_source k (inside k reads),
      );
      passed = inl both.1;
    }
    | inr end ↦ record {
      reached = λ k reads. omega (
        arith,
        end,
        most,
        least-below (length l.sources.items) by_source k (inside k reads),
      );
      passed = inr (λ k reads. omega (
        arith,
        end,
        least-below (length l.sources.items) by_source k (inside k reads),
      ));
    }
  ];
  keeps_none = λ low. r.keeps_none (λ k reads. omega (
    arith,
    low,
    least-below (length l.sources.items) by_source k (inside k reads),
  ));
}
  where
    inside : (k : ℕ) → Reads schemas plan k → k < length l.sources.items
    inside k reads = omega (arith, r.within k reads, count)
