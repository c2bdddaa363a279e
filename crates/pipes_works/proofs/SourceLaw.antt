-- The laws of a plan at work, by its sources.
use Rattle.std.proofs.Common.{◌≡◌, ℕ, zero, suc, ◌+◌, ◌≤◌, ◌<◌, Bool, true, false, cond, nat_le}
use Rattle.std.proofs.Common.{List, [], ◌∷◌, length, get_or, slice_get, unwrap_or, refl, sym, ◌∙◌}
use Rattle.std.proofs.Common.{ap, subst, arith}
use Rattle.std.specs.List.{All, Contains}
use Rattle.std.proofs.lemmas.Bool.{leb-true, le-leb}
use Rattle.std.proofs.lemmas.List.Elements.{All-nil, All-cons, All-head, All-tail, All-weaker}
use Rattle.std.proofs.lemmas.List.Elements.{All-contains, Contains-get_or}
use Rattle.pipes_tuple.specs.declared.value.Value.{Value}
use Rattle.pipes_tuple.specs.declared.value.Kind.{Kind}
use Rattle.pipes_tuple.specs.Kinds.{Fits}
use Rattle.pipes_tuple.specs.Bag.{SameBag}
use Rattle.pipes_tuple.proofs.Bags.{SameBag-trans}
use Rattle.pipes_stream.specs.declared.Elem.{Elem}
use Rattle.pipes_stream.specs.declared.message.Message.{Message}
use Rattle.pipes_stream.specs.Snapshot.{snapshot}
use Rattle.pipes_stream.specs.Lists.{beat, elements, HasEnded}
use Rattle.pipes_stream.specs.Lawful.{Lists, IsCovered, floor}
use Rattle.pipes_stream.proofs.Ports.{floor-below}
use Rattle.pipes_plan.specs.declared.plan.Plan.{Plan}
use Rattle.pipes_plan.specs.Algebra.{alg}
use Rattle.pipes_plan.proofs.SameAnswers.{answer_same}
use Rattle.pipes_node.proofs.NodeSteps.{get-any}
use Rattle.pipes_box.specs.Shapes.{Shape, shape_of, leaf_count, sources_of, leaf_elements}
use Rattle.pipes_box.specs.Shapes.{Answers, FollowsPlan, AtSources}
use Rattle.pipes_box.specs.Prompt.{lag_of, floors, IsPrompt, AllEnded, least_given}
use Rattle.pipes_works.specs.Sources.{source_of, by_leaf, Reads, IsCoveredBySource, AnswersSources}
use Rattle.pipes_works.specs.Sources.{AllReached, AllWithin, AllSourcesEnded, KeepsUpWithSources}
use Rattle.pipes_works.proofs.Leaves.{sources-count, EachLeaf, each-from, each-at, each-bag}
use Rattle.pipes_works.proofs.Leaves.{each-least, least-each, each-ended, each-among, covered-at}
use Rattle.pipes_works.proofs.Leaves.{each-weaker}
use Rattle.pipes_works.proofs.GivenKinds.{plan-gives}
use Rattle.pipes_works.proofs.Mixed.{is_in, in-contains, contains-in, mixed, mixed-same, mixed-at}

-- ---- how far elements keep a heartbeat back

-- the floor is no higher than the start of an element that reaches h
floor-starts : (h : ℕ) (es : List Elem) → All (λ e. h ≤ e.span.end → floor h es ≤ e.span.start) es
floor-starts h [] = All-nil (λ (e : Elem). h ≤ e.span.end → floor h [] ≤ e.span.start)
floor-starts h (e ∷ es) =
    All-cons (λ (x : Elem). h ≤ x.span.end → floor h (e ∷ es) ≤ x.span.start) e es
    (λ r. let at : ◌≡◌ {A = ℕ} (cond (nat_le h e.span.end) e.span.start h) e.span.start =
    rw (le-leb h e.span.end r) refl in omega (arith, at))
    (All-weaker (λ (x : Elem). h ≤ x.span.end → floor h es ≤ x.span.start)
    (λ (x : Elem). h ≤ x.span.end → floor h (e ∷ es) ≤ x.span.start) (λ x q r. omega (arith, q r))
    es (floor-starts h es))

cond-least : (b : Bool) (x y z : ℕ) → (b ≡ true → z ≤ x) → z ≤ y → z ≤ cond b x y
cond-least true x y z p q = p refl
cond-least false x y z p q = q

floor-parts : (h h' : ℕ) (es ds : List Elem) → h ≤ h' → All (IsCovered es) ds
    → floor h es ≤ floor h' ds
floor-parts h h' es [] low all = omega (arith, floor-below h es, low)
floor-parts h h' es (d ∷ ds) low all =
    let c : IsCovered es d = All-head (IsCovered es) d ds all in
    let more : floor h es ≤ floor h' ds = floor-parts h h' es ds low
    (All-tail (IsCovered es) d ds all) in
    let starts : h ≤ c.0.span.end → floor h es ≤ c.0.span.start =
    All-contains (λ (e : Elem). h ≤ e.span.end → floor h es ≤ e.span.start) es c.0
    (floor-starts h es) c.1 in
    let one : floor h es ≤ cond (nat_le h' d.span.end) d.span.start h' =
    cond-least (nat_le h' d.span.end) d.span.start h' (floor h es)
    (λ t. omega (arith, starts (omega (arith, leb-true h' d.span.end t, low, c.3)), c.2))
    (omega (arith, floor-below h es, low)) in
    omega (arith, more, one)

-- parts of the elements, at a higher heartbeat, keep it back no further
pub floors-parts : (n h h' : ℕ) (es ds : List Elem) → h ≤ h' → All (IsCovered es) ds
    → floors n h es ≤ floors n h' ds
floors-parts zero h h' es ds low all = low
floors-parts (suc n) h h' es ds low all =
    floor-parts (floors n h es) (floors n h' ds) es ds (floors-parts n h h' es ds low all) all

-- ---- by source

module _ (schemas : List (List Kind)) (plan : Plan) (by_source : Lists) (got : List Message) where
  abbrev Form : Shape
  Form = shape_of schemas plan

  abbrev Given : Lists
  Given = by_leaf Form by_source

  reads-leaf : (leaf : ℕ) → leaf < leaf_count Form → Reads schemas plan (source_of Form leaf)
  reads-leaf leaf l = Contains-get_or (sources_of Form) leaf 0
      (omega (arith, l, sources-count Form))

  -- what holds of each source that the plan reads holds of each leaf
  from-sources : (P : List Message → Type 0)
      → ((source : ℕ) → Reads schemas plan source → P (by_source source))
      → EachLeaf (λ k source. P (Given k)) Form 0
  from-sources P h = each-from (λ k source. P (Given k)) Form 0
      (λ j k l e. h (source_of Form k) (reads-leaf k (omega (arith, l, e))))

  -- a leaf of the source
  to-source : (P : List Message → Type 0) → EachLeaf (λ k source. P (Given k)) Form 0
      → (source : ℕ) → Reads schemas plan source → P (by_source source)
  to-source P each source r =
      let within : r.0 < leaf_count Form = omega (arith, r.1, sources-count Form) in
      let here : source_of Form r.0 ≡ source = get-any (sources_of Form) r.0 0 source r.1 ∙ r.2 in
      subst (λ (x : ℕ). P (by_source x)) here
      (each-at (λ k source. P (Given k)) Form 0 r.0 r.0 each within (omega arith))

  module _ (t : ℕ) (bags : List (List (List Value)))
      (same : (source : ℕ) → Reads schemas plan source
      → SameBag (snapshot (elements (by_source source)) t) (unwrap_or (slice_get bags source) []))
    where
      abbrev Read : ℕ → Bool
      Read = is_in (sources_of Form)

      abbrev Taken : ℕ → List (List Value)
      Taken source = snapshot (elements (by_source source)) t

      like : (k : ℕ) → Read k ≡ true → SameBag (Taken k) (unwrap_or (slice_get bags k) [])
      like k h = same k (in-contains (sources_of Form) k h)

      leaf-bag : (k : ℕ) → k < leaf_count Form
          → Taken (source_of Form k)
          ≡ unwrap_or (slice_get (mixed Read Taken bags) (source_of Form k)) []
      leaf-bag k l =
          let read : Read (source_of Form k) ≡ true = contains-in (sources_of Form)
          (source_of Form k) k (omega (arith, l, sources-count Form)) refl in
          mixed-at Read Taken bags (source_of Form k) read (like (source_of Form k) read)

      at-sources : AtSources Form 0 (λ leaf. snapshot (elements (Given leaf)) t)
          (mixed Read Taken bags)
      at-sources = each-bag (λ leaf. snapshot (elements (Given leaf)) t) (mixed Read Taken bags)
          Form 0 (each-from (λ k source. snapshot (elements (Given k)) t
          ≡ unwrap_or (slice_get (mixed Read Taken bags) source) []) Form 0
          (λ j k l e.
          let here : k ≡ j = omega (arith, e) in
          subst (λ (x : ℕ). Taken (source_of Form x)
          ≡ unwrap_or (slice_get (mixed Read Taken bags) (source_of Form j)) []) (sym here)
          (leaf-bag j l)))

      pub answer-bags : FollowsPlan schemas plan Given got → t < beat got
          → SameBag (snapshot (elements got) t)
          (alg plan bags)
      answer-bags follows below =
          SameBag-trans (follows t (mixed Read Taken bags) below at-sources)
          (answer_same (mixed Read Taken bags) bags (mixed-same Read Taken bags like) plan)

  covered-by_source : (e : Elem) → IsCovered (leaf_elements Form 0 Given) e
      → IsCoveredBySource schemas plan by_source e
  covered-by_source e c =
      let d = covered-at Given Form 0 e c in
      let same : 0 + d.leaf ≡ d.leaf = omega arith in (
        source_of Form d.leaf,
        reads-leaf d.leaf d.within,
        subst (λ (k : ℕ). IsCovered (elements (Given k)) e) same d.covered,
      )

  pub answers-sources : Answers Form 0 Given got → FollowsPlan schemas plan Given got
      → AnswersSources schemas plan by_source got
  answers-sources a follows = record {
    valid = a.valid;
    fits = λ kinds e. subst (λ (k : List Kind). All (λ e. Fits e.tuple k) (elements got))
        (plan-gives schemas plan kinds e) a.fits;
    answer = λ t bags below same. answer-bags t bags same follows below;
    spans = All-weaker (IsCovered (leaf_elements Form 0 Given))
        (IsCoveredBySource schemas plan by_source) covered-by_source (elements got) a.spans;
  }

  pub all-ended : AllSourcesEnded schemas plan by_source → AllEnded Form 0 Given
  all-ended ended = each-ended Given Form 0 (from-sources HasEnded ended)

  pub keeps-up : IsPrompt Form 0 Given got → KeepsUpWithSources schemas plan by_source got
  keeps-up p = record {
    below = to-source (λ list. beat got ≤ beat list)
        (each-weaker
        (λ k source. least_given Form 0 Given ≤ beat (Given k))
        (λ k source. beat got ≤ beat (Given k))
        (λ k source h. omega (arith, h, p.below)) Form 0 (least-each Given Form 0));
    above = λ h es reached within.
        let far : h ≤ least_given Form 0 Given = each-least Given h Form 0
        (from-sources (λ list. h ≤ beat list) reached) in
        let parts : All (IsCovered es) (leaf_elements Form 0 Given) =
        each-among (IsCovered es) Given Form 0
        (from-sources (λ list. All (IsCovered es) (elements list)) within) in
        omega (
          arith,
          p.above,
          floors-parts (lag_of Form) h (least_given Form 0 Given) es
              (leaf_elements Form 0 Given) far parts,
        );
    prompt = λ none h reached.
        let far : h ≤ least_given Form 0 Given = each-least Given h Form 0
        (from-sources (λ list. h ≤ beat list) reached) in
        let low : least_given Form 0 Given ≤ beat got =
        subst (λ (n : ℕ). floors n (least_given Form 0 Given) (leaf_elements Form 0 Given)
        ≤ beat got) none p.above in
        omega (arith, far, low);
    ends = λ ended. p.ends (all-ended ended);
  }
