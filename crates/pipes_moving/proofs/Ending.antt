-- A change is over: the fresh plan stands alone.
use Rattle.std.proofs.Common.{◌≡◌, ◌⊎◌, ℕ, ◌≤◌, ◌<◌, max, List, [], ◌∷◌, ◌++◌}
use Rattle.std.proofs.Common.{slice_get, unwrap_or, sym, ◌∙◌, ap, subst, arith, inl, inr}
use Rattle.std.proofs.Common.{append-nil}
use Rattle.std.specs.List.{All}
use Rattle.std.proofs.lemmas.Bool.{cases_lt}
use Rattle.std.proofs.lemmas.List.Elements.{All-weaker}
use Rattle.pipes_time.specs.Interval.{closed, IsInterval}
use Rattle.pipes_tuple.specs.declared.value.Value.{Value}
use Rattle.pipes_tuple.specs.declared.value.Kind.{Kind}
use Rattle.pipes_tuple.specs.Bag.{SameBag}
use Rattle.pipes_tuple.proofs.Bags.{SameBag-refl}
use Rattle.pipes_stream.specs.declared.Elem.{Elem}
use Rattle.pipes_stream.specs.declared.message.Message.{Message}
use Rattle.pipes_stream.specs.Progress.{Progress}
use Rattle.pipes_stream.specs.Snapshot.{snapshot}
use Rattle.pipes_stream.specs.Lists.{run, start_of_list, Valid, beat, elements, HasEnded}
use Rattle.pipes_stream.specs.Lawful.{Lists, IsCovered, floor}
use Rattle.pipes_stream.specs.Weights.{weigh}
use Rattle.pipes_stream.proofs.Following.{intervals}
use Rattle.pipes_stream.proofs.Messages.{beat-ended, beat-closed, elements-append}
use Rattle.pipes_stream.proofs.Ports.{floor-below, All-parts}
use Rattle.pipes_coalesce.specs.Tests.{ends_above}
use Rattle.pipes_coalesce.specs.Stands.{IsMerged, held_of}
use Rattle.pipes_coalesce.specs.Merged.{Merged}
use Rattle.pipes_seam.specs.Seams.{opening_of}
use Rattle.pipes_seam.proofs.Going.{both-weigh}
use Rattle.pipes_seam.proofs.Openings.{opened-list-run, opened-list-elements}
use Rattle.pipes_seam.proofs.Spans.{ends-none}
use Rattle.pipes_seam.proofs.Over.{over-held, over-same}
use Rattle.pipes_seam.proofs.Sending.{over-none}
use Rattle.pipes_plan.specs.declared.plan.Plan.{Plan}
use Rattle.pipes_node.proofs.NodeSteps.{get-any}
use Rattle.pipes_output.specs.declared.entry.Entry.{Entry}
use Rattle.pipes_semantics.specs.Written.{results, written_snapshot}
use Rattle.pipes_box.specs.Shapes.{Shape, shape_of, leaf_count, sources_of, LeafFits}
use Rattle.pipes_box.specs.Prompt.{lag_of, floors}
use Rattle.pipes_works.specs.Sources.{AnswersSources, KeepsUpWithSources, AllReached, AllWithin}
use Rattle.pipes_works.specs.Sources.{AllSourcesEnded, Reads, by_leaf, source_of}
use Rattle.pipes_works.specs.Standing.{WorksStand}
use Rattle.pipes_works.specs.declared.works.Works.{Works}
use Rattle.pipes_works.proofs.Leaves.{sources-count, each-at, fits-each}
use Rattle.pipes_works.proofs.GivenKinds.{plan-over}
use Rattle.pipes_standing.specs.declared.standing.Standing.{Standing}
use Rattle.pipes_standing.specs.Calms.{Rows, Calm}
use Rattle.pipes_standing.proofs.Calming.{top-ends}
use Rattle.pipes_standing.proofs.Alike.{alike-on}
use Rattle.pipes_moving.specs.declared.moving.Moving.{Moving}
use Rattle.pipes_moving.specs.Moves.{IsMoving, IsPassed, IsNoFurther, lag_between, AllStartFrom}
use Rattle.pipes_moving.specs.Moves.{split_of, first_of}
use Rattle.pipes_moving.specs.Steps.{IsSettled}
use Rattle.pipes_moving.proofs.Ahead.{floors-less, waits-none, top-covered}
use Rattle.pipes_moving.proofs.Tops.{rest_from, rest-covers, rest-floors, all_time, all-covers}
use Rattle.pipes_moving.proofs.Tops.{all-floors}

-- the list of a source that a plan reads is valid
pub reads-valid : (w : Works) (schemas : List (List Kind)) (plan : Plan) (by_source : Lists)
    (got : List Message) → WorksStand w schemas plan by_source got → (source : ℕ)
    → Reads schemas plan source → Valid (by_source source)
reads-valid w schemas plan by_source got s source reads =
    let form : Shape = shape_of schemas plan in
    let leaf : ℕ = reads.0 in
    let within : leaf < leaf_count form = omega (arith, reads.1, sources-count form) in
    let here : source_of form leaf ≡ source =
    get-any (sources_of form) leaf 0 source reads.1 ∙ reads.2 in
    let fits : LeafFits (unwrap_or (slice_get schemas (source_of form leaf)) [])
    (by_leaf form by_source leaf) =
    each-at (λ k source. LeafFits (unwrap_or (slice_get schemas source) [])
    (by_leaf form by_source k)) form 0 leaf leaf
    (fits-each schemas (by_leaf form by_source) form 0 (plan-over schemas plan) s.plan_box.fits)
    within (omega arith) in
    subst (λ (k : ℕ). Valid (by_source k)) here fits.valid

-- what starts from an instant on, which each source has reached, keeps the top back no further
pub top-reaches : (w : Works) (schemas : List (List Kind)) (plan : Plan) (by_source : Lists)
    (got : List Message) (low : ℕ) → WorksStand w schemas plan by_source got
    → KeepsUpWithSources schemas plan by_source got → AllStartFrom schemas plan low by_source
    → AllReached schemas plan by_source low → low ≤ beat got
top-reaches w schemas plan by_source got low s keeps starts reached =
    omega (
      arith,
      rest-floors (lag_of (shape_of schemas plan)) low,
      keeps.above low (rest_from low ∷ []) reached
          (λ source reads. rest-covers low (by_source source)
          (reads-valid w schemas plan by_source got s source reads) (starts source reads)),
    )

same-none : (xs ys : List (List Value)) → xs ≡ [] → ys ≡ [] → SameBag xs ys
same-none xs ys none empty = rw (none, empty) (SameBag-refl [])

module _ (schemas : List (List Kind)) (before after : Plan) (rows : Rows) (base : ℕ)
    (below from : Lists) (entries : List Entry) (m : Moving)
    (s : IsMoving m schemas before after rows base below from entries) (settled : IsSettled m)
    (merges : IsMerged m.seam.merge)
    (old_answers : AnswersSources schemas before below s.old_got)
    (old_keeps : KeepsUpWithSources schemas before below s.old_got)
    (fresh_answers : AnswersSources schemas after from s.fresh_got)
    (fresh_keeps : KeepsUpWithSources schemas after from s.fresh_got) where
  merged : Merged (split_of m) s.olds s.news s.sent (held_of m.seam.merge)
  merged = merges s.olds s.news s.sent s.merge

  olds-all : s.olds ≡ opening_of s.begun ++ s.since
  olds-all = sym (append-nil s.olds)
      ∙ ap (λ (l : List Message). s.olds ++ l) (sym settled.no_olds) ∙ s.olds_are

  news-all : s.news ≡ s.fresh_got
  news-all = sym (append-nil s.news)
      ∙ ap (λ (l : List Message). s.news ++ l) (sym settled.no_news) ∙ s.news_are

  old-valid : Valid (s.begun ++ s.since)
  old-valid = subst Valid s.old_got_is old_answers.valid

  olds-run : run start_of_list s.olds ≡ run start_of_list s.old_got
  olds-run = ap (run start_of_list) olds-all ∙ opened-list-run s.begun s.since old-valid
      ∙ ap (run start_of_list) (sym s.old_got_is)

  olds-beat : beat s.olds ≡ beat s.old_got
  olds-beat = ap (λ (p : Progress). p.beat) olds-run

  olds-ended : AllSourcesEnded schemas before below → HasEnded s.olds
  olds-ended ended = ap (λ (p : Progress). p.ended) olds-run ∙ old_keeps.ends ended

  news-valid : Valid s.news
  news-valid = subst Valid (sym news-all) fresh_answers.valid

  -- it is no further than the sources
  pub output-below : IsNoFurther m schemas before after below from
  output-below = record {
    old = λ source reads. omega (
      arith,
      s.beat_is,
      merged.beat_old,
      olds-beat,
      old_keeps.below source reads,
    );
    fresh = λ source reads. omega (
      arith,
      s.beat_is,
      merged.beat_fresh,
      ap beat news-all,
      fresh_keeps.below source reads,
    );
  }

  -- it is kept back by no more than the elements that reach there
  pub output-far : (h : ℕ) (es : List Elem) → AllReached schemas before below h
      → AllReached schemas after from h → AllWithin schemas before below es
      → AllWithin schemas after from es
      → floors (lag_between schemas before after) h es ≤ m.output.beat
  output-far h es old_reached fresh_reached old_within fresh_within =
      let a : ℕ = lag_of (shape_of schemas before) in
      let b : ℕ = lag_of (shape_of schemas after) in
      let x : ℕ = floors (max a b) h es in
      let y : ℕ = floor x es in
      let less : y ≤ x = floor-below x es in
      let in_old : x ≤ beat s.olds = omega (
        arith,
        floors-less a (max a b) h es (omega arith),
        old_keeps.above h es old_reached old_within,
        olds-beat,
      ) in
      let in_fresh : x ≤ beat s.news = omega (
        arith,
        floors-less b (max a b) h es (omega arith),
        fresh_keeps.above h es fresh_reached fresh_within,
        ap beat news-all,
      ) in
      let covered : All (IsCovered es) (elements s.old_got) =
      top-covered schemas before below es (elements s.old_got) old_within old_answers.spans in
      let parts : elements s.old_got ≡ elements s.begun ++ elements s.since =
      ap elements s.old_got_is ∙ elements-append s.begun s.since in
      let since : All (IsCovered es) (elements s.since) =
      (All-parts (IsCovered es) (elements s.begun) (elements s.since)
      (subst (All (IsCovered es)) parts covered)).1 in
      let same : elements s.olds ≡ elements s.since =
      ap elements olds-all ∙ opened-list-elements s.begun s.since old-valid in
      let far : y ≤ beat s.sent = merged.beat_from y (omega (arith, less, in_old))
      (omega (arith, less, in_fresh))
      (λ low. waits-none (split_of m) x es (elements s.olds) (omega (arith, low, in_fresh))
      (subst (All (IsCovered es)) (sym same) since)) in
      omega (arith, far, s.beat_is)

  -- once all sources have come to the end, so has the output
  pub output-ends : AllReached schemas before below closed → AllReached schemas after from closed
      → m.output.beat ≡ closed
  output-ends old_reached fresh_reached = omega (
    arith,
    all-floors (lag_between schemas before after),
    output-far closed (all_time ∷ []) old_reached fresh_reached
        (λ source reads. all-covers (below source)
        (reads-valid m.old_works schemas before below s.old_got s.old source reads))
        (λ source reads. all-covers (from source)
        (reads-valid m.fresh_works schemas after from s.fresh_got s.fresh source reads)),
    s.written.bounded,
  )

  module _ (p : IsPassed m schemas before after below from) where
    reaches : first_of m ≤ beat s.news
    reaches = omega (
      arith,
      ap beat news-all,
      top-reaches m.fresh_works schemas after from s.fresh_got (first_of m) s.fresh fresh_keeps
          (λ source reads.
          All-weaker (λ (e : Elem). max (split_of m) (first_of m) ≤ e.span.start)
          (λ (e : Elem). first_of m ≤ e.span.start) (λ e high. omega (arith, high))
          (elements (from source)) (s.starts source reads)) p.reached,
    )

    old-ends : AllReached schemas before below closed
    old-ends source reads = let ended = beat-ended (below source)
        (reads-valid m.old_works schemas before below s.old_got s.old source reads)
        (p.old_ended source reads) in omega (arith, ended)

    -- the fresh top is above the split, or both tops are at the end and so is the split
    above-split : (split_of m < beat s.news)
        ⊎ ((split_of m ≡ closed) × (m.output.beat ≡ closed) × (beat s.news ≡ closed))
    above-split = elim p.passed [
      | inl above ↦ inl (omega (arith, above, s.beat_is, merged.beat_fresh, reaches))
      | inr reached ↦ at-end (omega (
        arith,
        ap beat news-all,
        all-floors (lag_of (shape_of schemas after)),
        fresh_keeps.above closed (all_time ∷ []) reached
            (λ source reads. all-covers (from source)
            (reads-valid m.fresh_works schemas after from s.fresh_got s.fresh source reads)),
        beat-closed s.news news-valid,
      )) (output-ends old-ends reached)
    ]
      where
        at-end : beat s.news ≡ closed → m.output.beat ≡ closed → (split_of m < beat s.news)
            ⊎ ((split_of m ≡ closed) × (m.output.beat ≡ closed) × (beat s.news ≡ closed))
        at-end news output = elim (cases_lt (split_of m) closed) [
          | inl low ↦ inl (omega (arith, low, news))
          | inr high ↦ inr (omega (arith, high, s.closes), output, news)
        ]

    begun-low : weigh (ends_above (split_of m)) (elements s.begun) ≡ 0
    begun-low = omega (
      arith,
      ends-none (split_of m) (elements s.old_got)
          (top-ends schemas before below s.old_got (split_of m) old_answers s.ends),
      ap (λ (l : List Message). weigh (ends_above (split_of m)) (elements l)) s.old_got_is,
      both-weigh (ends_above (split_of m)) s.begun s.since,
    )

    output-is : m.output.beat ≡ beat s.news
    output-is = elim above-split [
      | inl above ↦
          (let held = over-held (split_of m) (held_of m.seam.merge) s.olds s.news s.sent merged
          news-valid (olds-ended p.old_ended) (inl above) in
          omega (arith, s.beat_is, held.1, reaches))
      | inr ends ↦ omega (arith, ends.1, ends.2)
    ]

    split-low : split_of m ≤ m.output.beat
    split-low = elim above-split [
      | inl above ↦ omega (arith, output-is, above)
      | inr ends ↦ omega (arith, ends.0, ends.1)
    ]

    -- nothing is valid from the end of time on
    none-after : (t : ℕ) (es : List Elem) → closed ≤ t
        → All (λ e. IsInterval e.span.start e.span.end) es → snapshot es t ≡ []
    none-after t es late spans = over-none closed t es
        (ends-none closed es (λ k e at. (let most = (spans k e at).1 in omega (arith, most)))) late

    shown-after : (t : ℕ) → split_of m ≤ t → SameBag (written_snapshot entries t)
        (snapshot (elements s.news) t)
    shown-after t high = elim above-split [
      | inl above ↦ subst (λ (es : List Elem).
          SameBag (snapshot es t) (snapshot (elements s.news) t)) (sym s.results_are)
          (over-same (split_of m) (held_of m.seam.merge) s.olds s.news s.sent merged news-valid
          (olds-ended p.old_ended) (inl above) t (results s.earlier) s.begun
          (s.shown t (omega (arith, high, s.rises))) begun-low high)
      | inr ends ↦ same-none (snapshot (results entries) t) (snapshot (elements s.news) t)
          (none-after t (results entries) (omega (arith, high, ends.0))
          (λ k e at. (s.written.typed k e at).0))
          (none-after t (elements s.news) (omega (arith, high, ends.0))
          (intervals start_of_list s.news news-valid))
    ]

    pub calm-after : (standing : Standing) → standing.works ≡ m.fresh_works
        → standing.sent ≡ m.fresh_sent → standing.output ≡ m.output
        → Calm standing schemas after rows (split_of m) from s.fresh_got entries
    calm-after standing works sent output = record {
      typed = s.typed_fresh;
      works = rw works s.fresh;
      seen = s.news;
      got_is = rw sent (sym s.news_are);
      beat_is = rw output output-is;
      written = rw output (alike-on schemas before after rows m.output.beat entries s.alike
          s.written);
      based = rw output split-low;
      shown = shown-after;
    }
