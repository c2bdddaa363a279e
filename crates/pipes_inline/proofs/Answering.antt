-- What came to the top are results of the query, and its answer once all sources have given all.
use Rattle.std.proofs.Common.{◌≡◌, ℕ, zero, suc, ◌+◌, ◌≤◌, ◌<◌, List, [], ◌∷◌, ◌++◌, length, get_or}
use Rattle.std.proofs.Common.{map, slice_get, unwrap_or, Option, Some, true, false, refl, sym, ◌∙◌}
use Rattle.std.proofs.Common.{ap, subst, arith}
use Rattle.std.specs.List.{All}
use Rattle.std.proofs.lemmas.List.{length-map}
use Rattle.std.proofs.lemmas.List.Elements.{All-head, All-tail, All-nil, All-cons}
use Rattle.pipes_time.specs.Interval.{horizon, closed, IsInterval}
use Rattle.pipes_time.specs.Rising.{RisesBy}
use Rattle.pipes_tuple.specs.declared.value.Kind.{Kind}
use Rattle.pipes_tuple.specs.Kinds.{Fits}
use Rattle.pipes_stream.specs.declared.Elem.{Elem}
use Rattle.pipes_stream.specs.declared.message.Message.{Message}
use Rattle.pipes_stream.specs.declared.message.Message.TheVariants as message
use Rattle.pipes_stream.specs.Progress.{Progress}
use Rattle.pipes_stream.specs.Snapshot.{snapshot}
use Rattle.pipes_stream.specs.Lists.{ValidFrom, start_of_list, after, elements, beat, HasEnded}
use Rattle.pipes_stream.specs.Lawful.{Lists}
use Rattle.pipes_stream.proofs.Following.{intervals, not_ended}
use Rattle.pipes_stream.proofs.Messages.{beat-ended}
use Rattle.pipes_plan.specs.PlanKinds.{IsTyped, plan_kinds}
use Rattle.pipes_window.specs.declared.item.Item.{Item}
use Rattle.pipes_window.specs.Windows.{in_window}
use Rattle.pipes_window.proofs.Heartbeats.{starts_lower}
use Rattle.pipes_window.proofs.Snapshots.{same_bag}
use Rattle.pipes_feed.specs.Items.{in_order}
use Rattle.pipes_query.specs.declared.query.Query.{Query}
use Rattle.pipes_query.specs.declared.query.SourceDecl.{SourceDecl}
use Rattle.pipes_semantics.specs.Answer.{schemas_of, schema_of, bags_at}
use Rattle.pipes_semantics.specs.Right.{IsResultOf}
use Rattle.pipes_results.specs.Answered.{AreResults, AreAnswers}
use Rattle.pipes_works.specs.Sources.{AnswersSources, KeepsUpWithSources, Reads}
use Rattle.pipes_intake.specs.Giving.{HasGiven}
use Rattle.pipes_inline.specs.Standing.{items_from}
use Rattle.pipes_inline.proofs.Reading.{reads-within}

-- nothing comes after the end
none-after : (p : Progress) (ms : List Message) → p.ended ≡ true → ValidFrom p ms
    → elements ms ≡ []
none-after p [] e v = refl
none-after p (m ∷ ms) e v = let f = not_ended p m v.0 in absurd (cc)

-- the starts of a valid list never fall
rises : (p : Progress) (ms : List Message) → ValidFrom p ms
    → RisesBy (λ e. e.span.start) p.beat (elements ms)
rises p [] v = tt
rises p (message.Elem e ∷ ms) v = (v.0.1, rises (after p (message.Elem e)) ms v.1)
rises p (message.Beat at ∷ ms) v =
    starts_lower p.beat at (elements ms) v.0.1 (rises (after p (message.Beat at)) ms v.1)
rises p (message.End ∷ ms) v =
    subst (λ (l : List Elem). RisesBy (λ e. e.span.start) p.beat l)
    (sym (none-after (after p message.End) ms refl v.1)) tt

both : (query : Query) (kinds : List Kind) (elems : List Elem) → schema_of query ≡ kinds
    → All (λ e. IsInterval e.span.start e.span.end) elems → All (λ e. Fits e.tuple kinds) elems
    → All (IsResultOf query) elems
both query kinds elems is spans fits k d l = (
  spans k d l,
  subst (λ (ks : List Kind). Fits (get_or elems k d).tuple ks) (sym is) (fits k d l),
)

-- what came to the top are results of the query
pub top-results : (query : Query) (sent : Lists) (got : List Message)
    → IsTyped query.plan (schemas_of query)
    → AnswersSources (schemas_of query) query.plan sent got → AreResults query (elements got)
top-results query sent got typed a = record {
  order = rises start_of_list got a.valid;
  typed = both query typed.schema (elements got)
      (ap (λ (o : Option (List Kind)). unwrap_or o []) typed.is)
      (intervals start_of_list got a.valid) (a.fits typed.schema typed.is);
}

-- the bag of a source is its rows that are valid
bags-at : (ss : List SourceDecl) (n : ℕ) (taken : ℕ → List Item) (t k : ℕ) (s : SourceDecl)
    → k < length ss
    → unwrap_or (slice_get (bags_at ss (items_from ss n taken) t) k) []
    ≡ in_window (get_or ss k s).window (in_order (taken (n + k))) t
bags-at [] n taken t k s l = absurd (omega (arith, l))
bags-at (d ∷ ss) n taken t zero s l =
    let e : n ≡ n + 0 = omega arith in
    ap (λ (j : ℕ). in_window d.window (in_order (taken j)) t) e
bags-at (d ∷ ss) n taken t (suc k) s l =
    let e : n + 1 + k ≡ n + suc k = omega arith in
    bags-at ss (n + 1) taken t k s (omega (arith, l))
    ∙ ap (λ (j : ℕ). in_window (get_or ss k s).window (in_order (taken j)) t) e

pub some-of : {X : Type 0} (xs : List X) (k : ℕ) → k < length xs → X
some-of [] k l = absurd (omega (arith, l))
some-of (x ∷ xs) k l = x

-- at each instant it is the answer, once each source has given all
pub over-answers : (query : Query) (taken : ℕ → List Item) (sent : Lists) (got : List Message)
    → IsTyped query.plan (schemas_of query)
    → ((k : ℕ) → k < length query.sources → (s : SourceDecl)
    → HasGiven (get_or query.sources k s) (taken k) (sent k))
    → AnswersSources (schemas_of query) query.plan sent got
    → KeepsUpWithSources (schemas_of query) query.plan sent got
    → AreAnswers query (items_from query.sources 0 taken) (elements got)
over-answers query taken sent got typed given a u =
    let within : (source : ℕ) → Reads (schemas_of query) query.plan source
    → source < length query.sources = λ source reads. omega (
      arith,
      reads-within (schemas_of query) query.plan source typed reads,
      length-map query.sources (λ (s : SourceDecl). s.schema),
    ) in
    let ended : HasEnded got = u.ends (λ source reads.
    (given source (within source reads)
    (some-of query.sources source (within source reads))).ended) in
    let far : beat got ≡ closed = beat-ended got a.valid ended in
    record {
      results = top-results query sent got typed a;
      rows = λ t below.
          a.answer t (bags_at query.sources (items_from query.sources 0 taken) t)
          (omega (arith, far, below))
          (λ source reads.
          let s = some-of query.sources source (within source reads) in
          let e : 0 + source ≡ source = omega arith in
          same_bag _ _ ((given source (within source reads) s).rows t below
          ∙ sym (bags-at query.sources 0 taken t source s (within source reads)
          ∙ ap (λ (j : ℕ). in_window (get_or query.sources source s).window
          (in_order (taken j)) t) e)));
    }
