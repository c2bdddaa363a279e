-- The reply to a drain, and that a migration is refused.
use Rattle.std.proofs.Common.{◌≡◌, ◌⊎◌, ℕ, ◌+◌, ◌≤◌, Bool, List, [], ◌∷◌, ◌++◌}
use Rattle.std.proofs.Common.{drop, inl, inr, refl, sym, ap, subst, ◌∙◌, arith, Some, None}
use Rattle.std.specs.List.{Contains}
use Rattle.pipes_tuple.specs.declared.value.Kind.{Kind}
use Rattle.pipes_stream.specs.declared.Elem.{Elem}
use Rattle.pipes_stream.specs.Lawful.{Lists}
use Rattle.pipes_plan.specs.declared.plan.Plan.{Plan}
use Rattle.pipes_window.specs.declared.item.Item.{Item}
use Rattle.pipes_query.specs.declared.query.Query.{Query}
use Rattle.pipes_output.specs.declared.entry.Entry.{Entry}
use Rattle.pipes_output.specs.declared.entry.Entry.TheVariants as entry
use Rattle.pipes_output.specs.declared.entry.RefusedWhy.{RefusedWhy}
use Rattle.pipes_output.specs.declared.entry.RefusedWhy.TheVariants as why
use Rattle.pipes_semantics.specs.Answer.{bags_at, schemas_of}
use Rattle.pipes_semantics.specs.Written.{EndsRun}
use Rattle.pipes_written.specs.Made.{drained}
use Rattle.pipes_box.specs.Prompt.{floors}
use Rattle.pipes_derivation.specs.declared.derivation.Derivation.{Derivation}
use Rattle.pipes_told.specs.Asks.{Ask, Migrates, Drains, Taken}
use Rattle.pipes_told.specs.Told.{Move, after_entry, after_entries, in_progress}
use Rattle.pipes_told.specs.Replies.{IsRefusal}
use Rattle.pipes_told.specs.Pacing.{EachMove, IsOver, Follow, MayFollow, steepest}
use Rattle.pipes_told.specs.Steep.{steep}
use Rattle.pipes_told.proofs.Floors.{floors-below, floors-grown}
use Rattle.pipes_replies.specs.Leading.{target, ComesTo}
use Rattle.pipes_replies.specs.declared.replies.Replies.{Replies}
use Rattle.pipes_replies.specs.declared.stage.Stage.{Stage}
use Rattle.pipes_replies.specs.declared.stage.Stage.TheVariants.{Moving}
use Rattle.pipes_replies.specs.Keeping.{IsAt, Keeps, KeepsPaced, Beside}
use Rattle.pipes_replies.specs.Telling.{AllTold, HasReached, Refuses, CountsOne}
use Rattle.pipes_replies.proofs.Calls.{tells-drain}
use Rattle.pipes_live.specs.Lives.{Serves}
use Rattle.pipes_live.specs.Deeds.{Stays, Reaches}
use Rattle.pipes_live.specs.Deeds.{Tells as TellsLive}
use Rattle.pipes_course.specs.Given.{HaveGiven, elements_from}
use Rattle.pipes_engine.specs.declared.serving.Serving.{Serving}
use Rattle.pipes_engine.specs.Runs.{IsRunning, IsPacedAt, IsSound, told_by, beat_now}
use Rattle.pipes_engine.specs.Deeds.{a_drain, a_migration}
use Rattle.pipes_rules.specs.Stepping.{Derives, FailsAt}
use Rattle.pipes_engine.specs.Parts.{RepliesIn, RefusesIn, SameBeside}
use Rattle.pipes_engine.proofs.Sources.{within-given}
use Rattle.pipes_engine.proofs.Splits.{contains-cases, coalesced-same}
use Rattle.pipes_engine.proofs.Running.{spans_of, running-on}
use Rattle.pipes_engine.proofs.Running.{within-sources}
use Rattle.pipes_engine.proofs.Timing.{KeepsUp, IsInputsBeat, reached-known, known-is}

-- ---- how far the output must have come

pub has-reached : (s : Serving) (query : Query) (items : List (List Item)) (told : AllTold)
    (known end : ℕ) (by_source : Lists) → IsSound s → s.schemas ≡ schemas_of query
    → told.plan ≡ s.plan
    → Reaches s.live (schemas_of query) s.plan told.earlier known by_source
    → HaveGiven query.sources items known end by_source
    → HasReached (spans_of query items) told known (beat_now s)
has-reached s query items told known end by_source sound schemas plan reach given =
    let n : ℕ = steepest steep (told.plan ∷ told.earlier) + 1 in
    let es : List Elem = elements_from 0 query.sources by_source in
    let all = floors-grown n known known es (spans_of query items) (omega arith) given.grown in
    let here : floors n known es ≤ beat_now s =
    subst (λ (p : Plan). floors (steepest steep (p ∷ told.earlier) + 1) known es ≤ beat_now s)
    (sym plan) (reach.far es (within-given (schemas_of query) s.plan query.sources by_source
    (within-sources s query sound schemas))) in (
      floors-below n known (spans_of query items),
      omega (arith, all, here),
    )

-- ---- a drain

drained-goes : (inputs output : ℕ) (e : Entry) → (e ≡ entry.Beat output)
    ⊎ (e ≡ entry.Drained inputs output) → EndsRun e → ⊥
drained-goes inputs output e (inl is) (inl last) = cc (is, last)
drained-goes inputs output e (inl is) (inr last) = cc (is, last)
drained-goes inputs output e (inr is) (inl last) = cc (is, last)
drained-goes inputs output e (inr is) (inr last) = cc (is, last)

drained-none : (inputs output number split : ℕ)
    → Contains (drained inputs output) (entry.Accepted number split) → ⊥
drained-none inputs output number split c =
    elim (contains-cases (entry.Beat output) (entry.Drained inputs output ∷ [])
    (entry.Accepted number split) c) [
      | inl is ↦ cc (is)
      | inr later ↦ elim (contains-cases (entry.Drained inputs output) []
          (entry.Accepted number split) later) [
            | inl is ↦ cc (is)
            | inr none ↦ (let low = none.1 in omega (arith, low))
          ]
    ]

module _ (old new : Serving) (sound : IsSound old) (inputs : ℕ)
    (up : KeepsUp old.live) (inputs_is : IsInputsBeat old.live inputs) (same : SameBeside old new)
    (stays : Stays old.live new.live)
    (t : TellsLive old.live new.live (drained inputs (beat_now old))) where
  module _ (query : Query) (items : List (List Item)) (asks later : List (Ask Derivation))
      (by_source : Lists) (entries : List Entry) (known end : ℕ)
      (p : IsPacedAt old query items asks (Drains (Taken known end) ∷ later) by_source entries
      known)
      (given : HaveGiven query.sources items known end by_source) where
    abbrev r : IsRunning old query items asks (Drains (Taken known end) ∷ later) by_source entries
    r = p.running

    abbrev told : AllTold
    told = told_by query asks entries

    abbrev more : List Entry
    more = drained inputs (beat_now old)

    is-known : inputs ≡ known
    is-known = known-is old sound inputs up inputs_is query items asks
        (Drains (Taken known end) ∷ later) by_source entries known end r given

    reaches : Reaches old.live (schemas_of query) old.plan told.earlier known by_source
    reaches = reached-known old sound up query items asks (Drains (Taken known end) ∷ later)
        by_source entries known end r given

    step : Follow target (ComesTo (schemas_of query)) steep (spans_of query items) told more
        × KeepsPaced old.replies (after_entries target told more) known (beat_now old)
    step = subst (λ (n : ℕ). Follow target (ComesTo (schemas_of query)) steep
        (spans_of query items) told (drained n (beat_now old))
        × KeepsPaced old.replies (after_entries target told (drained n (beat_now old))) known
        (beat_now old)) (sym is-known)
        (tells-drain old.replies known (beat_now old) (schemas_of query) (spans_of query items)
        told end p.paced (later, r.later_are)
        (has-reached old query items told known end by_source sound r.schemas_are r.plan_is
        reaches given))

    served : Serves new.live (schemas_of query) query.plan old.plan told.earlier
        (bags_at query.sources items) by_source (entries ++ more)
    served = t.holds (schemas_of query) query.plan old.plan told.earlier
        (bags_at query.sources items) by_source entries r.serves

    pub drain-on : IsRunning new query items asks later by_source (entries ++ more)
    drain-on = running-on new query items asks later by_source entries more
        (after_entries target told more) refl (same.schemas ∙ r.schemas_are)
        (ap (λ (l : List (Ask Derivation)). drop 1 l) r.later_are) (r.plan_is ∙ sym same.plan)
        (subst (λ (q : Plan). Serves new.live (schemas_of query) query.plan q told.earlier
        (bags_at query.sources items) by_source (entries ++ more)) (sym same.plan) served)
        known (beat_now old) (let beat = given.beat_is in omega (arith, beat))
        (let b = t.beat in omega (arith, b))
        (subst (λ (x : Replies). Keeps x (after_entries target told more) known (beat_now old))
        (sym same.replies) step.1.keeps)
        (λ not alone. r.moving (λ calm. not (ap (λ (x : Replies). x.stage) same.replies ∙ calm))
        (stays.alone.1 alone)) r.follow step.0 r.going (
          drained-goes inputs (beat_now old) (entry.Beat (beat_now old)) (inl refl),
          (drained-goes inputs (beat_now old) (entry.Drained inputs (beat_now old)) (inr refl), tt),
        )
        (coalesced-same entries more refl
        (λ number split c. drained-none inputs (beat_now old) number split c) r.coalesced)
        (r.end_is ∙ sym same.end)

  pub drains : RepliesIn old new a_drain
  drains = record {
    more = drained inputs (beat_now old);
    entries = t.entries;
    none = refl;
    beat = t.beat;
    runs = λ query items asks later by_source entries known end p given.
        drain-on query items asks later by_source entries known end p given;
  }

-- ---- a refusal

refused-none : (command number split : ℕ) (why : RefusedWhy)
    → Contains (entry.Refused command why ∷ []) (entry.Accepted number split) → ⊥
refused-none command number split why c =
    elim (contains-cases (entry.Refused command why) [] (entry.Accepted number split) c) [
      | inl is ↦ cc (is)
      | inr none ↦ (let low = none.1 in omega (arith, low))
    ]

refused-goes : (command : ℕ) (why : RefusedWhy) → EndsRun (entry.Refused command why) → ⊥
refused-goes command why (inl is) = cc (is)
refused-goes command why (inr is) = cc (is)

module _ (old new : Serving) (sound : IsSound old) (up : KeepsUp old.live) (why : RefusedWhy)
    (refuses : Refuses old.replies new.replies why (entry.Refused new.replies.commands why))
    (numbers : CountsOne old.replies new.replies) (schemas : new.schemas ≡ old.schemas)
    (plan : new.plan ≡ old.plan) (ends : new.end ≡ old.end) (stays : Stays old.live new.live)
    (t : TellsLive old.live new.live (entry.Refused new.replies.commands why ∷ [])) where
  abbrev refusal : List Entry
  refusal = entry.Refused new.replies.commands why ∷ []

  module _ (query : Query) (items : List (List Item)) (d : Derivation)
      (asks later : List (Ask Derivation)) (by_source : Lists) (entries : List Entry)
      (known end : ℕ)
      (p : IsPacedAt old query items asks (Migrates d (Taken known end) ∷ later) by_source entries
      known)
      (given : HaveGiven query.sources items known end by_source)
      (is : IsRefusal (ComesTo (schemas_of query)) (told_by query asks entries) d why) where
    abbrev run : IsRunning old query items asks (Migrates d (Taken known end) ∷ later) by_source
        entries
    run = p.running

    abbrev said : AllTold
    said = told_by query asks entries

    reply : MayFollow (ComesTo (schemas_of query)) steep (spans_of query items) said
        (entry.Refused new.replies.commands why)
        × KeepsPaced new.replies
        (after_entry target said (entry.Refused new.replies.commands why)) known (beat_now old)
    reply = refuses (schemas_of query) (spans_of query items) said d known (beat_now old) end
        p.paced (later, run.later_are)
        (has-reached old query items said known end by_source sound run.schemas_are run.plan_is
        (reached-known old sound up query items asks (Migrates d (Taken known end) ∷ later)
        by_source entries known end run given) given) is

    serves : Serves new.live (schemas_of query) query.plan old.plan said.earlier
        (bags_at query.sources items) by_source (entries ++ refusal)
    serves = t.holds (schemas_of query) query.plan old.plan said.earlier
        (bags_at query.sources items) by_source entries run.serves

    pub refuse-on : IsRunning new query items asks later by_source (entries ++ refusal)
    refuse-on = running-on new query items asks later by_source entries refusal
        (after_entries target said refusal) refl (schemas ∙ run.schemas_are)
        (ap (λ (l : List (Ask Derivation)). drop 1 l) run.later_are) (run.plan_is ∙ sym plan)
        (subst (λ (q : Plan). Serves new.live (schemas_of query) query.plan q said.earlier
        (bags_at query.sources items) by_source (entries ++ refusal)) (sym plan) serves)
        known (beat_now old) (let beat = given.beat_is in omega (arith, beat))
        (let b = t.beat in omega (arith, b)) reply.1.keeps
        (λ not alone. run.moving (λ calm. not (numbers.stage ∙ calm)) (stays.alone.1 alone))
        run.follow (reply.0, tt) run.going (refused-goes new.replies.commands why, tt)
        (coalesced-same entries refusal refl
        (λ number split c. refused-none new.replies.commands number split why c) run.coalesced)
        (run.end_is ∙ sym ends)

  pub refuses-in : RefusesIn old new why
  refuses-in = record {
    more = refusal;
    entries = t.entries;
    none = refl;
    beat = t.beat;
    runs = λ query items d asks later by_source entries known end p given is.
        refuse-on query items d asks later by_source entries known end p given is;
  }

-- ---- the cause, where another stands beside it

calm-alone : (ms : List Move) → EachMove IsOver ms → in_progress ms ≡ None
calm-alone [] over = refl
calm-alone (m ∷ ms) over = rw over.0.1 refl

moving-there : (inputs split : ℕ) (idle : Bool) (ms : List Move)
    → IsAt inputs (Moving split idle) ms → in_progress ms ≡ Some split
moving-there inputs split idle [] at = absurd at
moving-there inputs split idle (m ∷ ms) at = rw at.going (ap (λ (n : ℕ). Some n) at.split_is)

pub beside-cause : (schemas : List (List Kind)) (r : Replies) (told : AllTold) (d : Derivation)
    (inputs output : ℕ) (cause : RefusedWhy) → Keeps r told inputs output
    → ComesTo schemas told.plan d None → Beside r (Some cause)
    → IsRefusal (ComesTo schemas) told d cause
beside-cause schemas r told d inputs output (why.NotDerived step) k comes beside = absurd beside
beside-cause schemas r told d inputs output (why.Busy split) k comes beside = (
  comes,
  moving-there inputs split beside.0 told.moves
      (subst (λ (s : Stage). IsAt inputs s told.moves) beside.1 k.at),
)
beside-cause schemas r told d inputs output why.Limit k comes beside = (
  comes,
  calm-alone told.moves (subst (λ (s : Stage). IsAt inputs s told.moves) beside.0 k.at),
  (let count = k.accepted in let most = beside.1 in omega (arith, count, most)),
)

-- ---- refused, as a reply

module _ (old new : Serving) (d : Derivation) (cause : RefusedWhy) (f : RefusesIn old new cause)
  where
    -- the derivation fails
    pub failed-replies : (step : ℕ) → cause ≡ why.NotDerived step
        → FailsAt old.schemas old.plan d.steps d.plan 1 step → RepliesIn old new (a_migration d)
    failed-replies step is fails = record {
      more = f.more;
      entries = f.entries;
      none = f.none;
      beat = f.beat;
      runs = λ query items asks later by_source entries known end p given.
          let r = p.running in
          let fails_there : FailsAt (schemas_of query) (told_by query asks entries).plan d.steps
          d.plan
          1 step =
          subst (λ (q : Plan). FailsAt (schemas_of query) q d.steps d.plan 1 step) (sym r.plan_is)
          (subst (λ (ss : List (List Kind)). FailsAt ss old.plan d.steps d.plan 1 step)
          r.schemas_are fails) in
          f.runs query items d asks later by_source entries known end p given
          (subst (λ (c : RefusedWhy). IsRefusal (ComesTo (schemas_of query))
          (told_by query asks entries) d c) (sym is) fails_there);
    }

    -- it leads to its plan, and another cause stands beside it
    pub beside-replies : Derives old.schemas old.plan d.steps d.plan
        → Beside old.replies (Some cause) → RepliesIn old new (a_migration d)
    beside-replies derives beside = record {
      more = f.more;
      entries = f.entries;
      none = f.none;
      beat = f.beat;
      runs = λ query items asks later by_source entries known end p given.
          let r = p.running in
          let comes : Derives (schemas_of query) (told_by query asks entries).plan d.steps d.plan =
          subst (λ (q : Plan). Derives (schemas_of query) q d.steps d.plan) (sym r.plan_is)
          (subst (λ (ss : List (List Kind)). Derives ss old.plan d.steps d.plan) r.schemas_are
          derives) in
          f.runs query items d asks later by_source entries known end p given
          (beside-cause (schemas_of query) old.replies (told_by query asks entries) d known
          (beat_now old) cause p.paced.keeps comes beside);
    }
