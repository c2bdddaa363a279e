-- A migration is accepted: the derivation's plan begins to take the place of the one now.
use Rattle.std.proofs.Common.{◌≡◌, ◌↔◌, ℕ, ◌+◌, ◌≤◌, ◌<◌, max, List, [], ◌∷◌, ◌++◌, length, inl}
use Rattle.std.proofs.Common.{inr}
use Rattle.std.proofs.Common.{refl, sym, ap, subst, ◌∙◌, arith, Option, None, unwrap_or, append-nil}
use Rattle.std.specs.List.{Contains}
use Rattle.std.proofs.lemmas.List.Elements.{Contains-append_cases}
use Rattle.pipes_time.specs.Interval.{closed}
use Rattle.pipes_tuple.specs.declared.value.Kind.{Kind}
use Rattle.pipes_tuple.proofs.Bags.{SameBag-sym}
use Rattle.pipes_stream.specs.declared.Elem.{Elem}
use Rattle.pipes_stream.specs.Lawful.{Lists, no_messages}
use Rattle.pipes_plan.specs.declared.plan.Plan.{Plan}
use Rattle.pipes_plan.specs.PlanKinds.{IsTyped}
use Rattle.pipes_plan.specs.Refusals.{Checks}
use Rattle.pipes_window.specs.declared.item.Item.{Item}
use Rattle.pipes_query.specs.declared.query.Query.{Query}
use Rattle.pipes_output.specs.declared.entry.Entry.{Entry}
use Rattle.pipes_output.specs.declared.entry.Entry.TheVariants as entry
use Rattle.pipes_semantics.specs.Answer.{bags_at, schemas_of}
use Rattle.pipes_semantics.specs.Written.{results, EndsRun}
use Rattle.pipes_written.proofs.Splits.{results-append}
use Rattle.pipes_rewrite.specs.SameMeaning.{SameMeaning}
use Rattle.pipes_rules.specs.declared.step.Step.{Step}
use Rattle.pipes_rules.specs.Stepping.{Derives}
use Rattle.pipes_box.specs.Shapes.{shape_of, sources_of}
use Rattle.pipes_works.specs.Standing.{WorksStand}
use Rattle.pipes_moving.specs.declared.next.Next.{Next}
use Rattle.pipes_derivation.specs.declared.derivation.Derivation.{Derivation}
use Rattle.pipes_told.specs.Asks.{Ask, Migrates, Taken}
use Rattle.pipes_told.specs.Told.{after_entry, after_entries, accepted}
use Rattle.pipes_told.specs.Pacing.{MayFollow}
use Rattle.pipes_told.specs.Coalesced.{CoalescedAt, Coalesced}
use Rattle.pipes_told.specs.Steep.{steep}
use Rattle.pipes_replies.specs.Leading.{target, ComesTo}
use Rattle.pipes_replies.specs.Keeping.{Keeps}
use Rattle.pipes_replies.specs.Telling.{AllTold, Accepts}
use Rattle.pipes_live.specs.declared.live.Live.{Live}
use Rattle.pipes_live.specs.Lives.{Serves, IsWholeLive}
use Rattle.pipes_live.specs.Deeds.{Stays, Begins, MaySplit, IsLike}
use Rattle.pipes_live.specs.Deeds.{Tells as TellsLive}
use Rattle.pipes_course.specs.Given.{HaveGiven}
use Rattle.pipes_engine.specs.declared.serving.Serving.{Serving}
use Rattle.pipes_engine.specs.Runs.{IsRunning, IsPacedAt, IsSound, IsInOrder, told_by, beat_now}
use Rattle.pipes_engine.specs.Deeds.{a_migration}
use Rattle.pipes_engine.specs.Parts.{RepliesIn}
use Rattle.pipes_engine.proofs.Sources.{given-below}
use Rattle.pipes_engine.proofs.Splits.{contains-cases}
use Rattle.pipes_engine.proofs.Running.{spans_of, running-on, within-sources}
use Rattle.pipes_engine.proofs.Writing.{Coalesces}
use Rattle.pipes_engine.proofs.Timing.{KeepsUp, reached-known}
use Rattle.pipes_engine.proofs.Replying.{has-reached}

-- ---- the derivation's plan

pub derived-checks : (ss : List (List Kind)) (old new : Plan) (steps : List Step)
    → Checks ss old → Derives ss old steps new → Checks ss new
derived-checks ss old new [] checks d = subst (λ (p : Plan). Checks ss p) d checks
derived-checks ss old new (step ∷ steps) checks d =
    derived-checks ss d.0 new steps d.1.checks d.2

pub means-typed : (ss : List (List Kind)) (old new : Plan) → SameMeaning ss old new
    → IsTyped old ss → IsTyped new ss
means-typed ss old new means typed =
    record { schema = typed.schema; is = sym means.kinds ∙ typed.is }

-- a derivation keeps the sources of the leaves: a law of `pipes_rule_sources`
abbrev pub KeepsLeaves : Type 0
KeepsLeaves = (schemas : List (List Kind)) (old : Plan) (steps : List Step) (new : Plan)
    → Derives schemas old steps new → (source : ℕ)
    → Contains (sources_of (shape_of schemas old)) source
    ↔ Contains (sources_of (shape_of schemas new)) source

-- ---- the entry

accepted-goes : (number split : ℕ) → EndsRun (entry.Accepted number split) → ⊥
accepted-goes number split (inl is) = cc (is)
accepted-goes number split (inr is) = cc (is)

same-split : (n split m low : ℕ) → entry.Accepted n split ≡ entry.Accepted m low → split ≡ low
same-split n split m low is = cc (is)

coalesced-new : (entries : List Entry) (n split : ℕ) → Coalesced entries
    → CoalescedAt (results (entries ++ entry.Accepted n split ∷ [])) split
    → Coalesced (entries ++ entry.Accepted n split ∷ [])
coalesced-new entries n split was now number low there =
    elim (Contains-append_cases entries (entry.Accepted n split ∷ []) (entry.Accepted number low)
    there) [
      | inl early ↦ subst (λ (es : List Elem). CoalescedAt es low)
          (sym (results-append entries (entry.Accepted n split ∷ [])
          ∙ append-nil (results entries))) (was number low early)
      | inr late ↦ elim (contains-cases (entry.Accepted n split) [] (entry.Accepted number low)
          late) [
            | inl is ↦ subst (λ (k : ℕ). CoalescedAt (results
                (entries ++ entry.Accepted n split ∷ [])) k) (same-split n split number low is) now
            | inr none ↦ absurd (let under = none.1 in omega (arith, under))
          ]
    ]

module _ (old new : Serving) (d : Derivation) (sound : IsSound old) (order : IsInOrder old)
    (up : KeepsUp old.live) (leaves : KeepsLeaves)
    (derives : Derives old.schemas old.plan d.steps d.plan)
    (means : SameMeaning old.schemas old.plan d.plan) (split : ℕ)
    (split_is : split ≡ max (old.end + 1) old.live.split)
    (accepts : Accepts old.replies new.replies split (entry.Accepted new.replies.accepted split))
    (live : Live) (stays : Stays old.live live)
    (t : TellsLive old.live live (entry.Accepted new.replies.accepted split ∷ []))
    (next : Next) (stands : WorksStand next.works old.schemas d.plan no_messages [])
    (b : Begins live new.live next split) (whole : Coalesces new.live)
    (schemas : new.schemas ≡ old.schemas) (plan : new.plan ≡ d.plan) (ends : new.end ≡ old.end)
  where
    abbrev reply : Entry
    reply = entry.Accepted new.replies.accepted split

    abbrev more : List Entry
    more = reply ∷ []

    module _ (query : Query) (items : List (List Item)) (asks later : List (Ask Derivation))
        (by_source : Lists) (entries : List Entry) (known end : ℕ)
        (p : IsPacedAt old query items asks (Migrates d (Taken known end) ∷ later) by_source entries
        known)
        (given : HaveGiven query.sources items known end by_source) where
      abbrev r : IsRunning old query items asks (Migrates d (Taken known end) ∷ later) by_source
          entries
      r = p.running

      abbrev told : AllTold
      told = told_by query asks entries

      abbrev now_told : AllTold
      now_told = accepted target told split (Migrates d (Taken known end) ∷ later)

      now_is : after_entries target told more ≡ now_told
      now_is = ap (λ (l : List (Ask Derivation)). accepted target told split l) r.later_are

      comes : ComesTo (schemas_of query) told.plan d None
      comes = subst (λ (q : Plan). Derives (schemas_of query) q d.steps d.plan) (sym r.plan_is)
          (subst (λ (ss : List (List Kind)). Derives ss old.plan d.steps d.plan) r.schemas_are
          derives)

      above : end < split
      above = let is = given.end_is in let was = r.end_is in omega (arith, is, was, split_is)

      step : MayFollow (ComesTo (schemas_of query)) steep (spans_of query items) told reply
          × Keeps new.replies (after_entry target told reply) known (beat_now old)
      step = accepts (schemas_of query) (spans_of query items) told d known (beat_now old) end
          p.paced (later, r.later_are)
          (has-reached old query items told known end by_source sound r.schemas_are r.plan_is
          (reached-known old sound up query items asks (Migrates d (Taken known end) ∷ later)
          by_source entries known end r given) given) comes above

      may-split : MaySplit (schemas_of query) old.plan live.split split by_source
      may-split = record {
        some = omega (arith, split_is);
        most = (let low = sound.end in let last = sound.last in let same = order.split_is in
            omega (arith, split_is, low, last, same));
        rises = (let same = stays.split in omega (arith, split_is, same));
        above = given-below (schemas_of query) old.plan query.sources by_source
            (within-sources old query sound r.schemas_are) split
            (let is = given.end_is in omega (arith, is, above));
      }

      meant : SameMeaning (schemas_of query) old.plan d.plan
      meant = subst (λ (ss : List (List Kind)). SameMeaning ss old.plan d.plan) r.schemas_are means

      like : IsLike (schemas_of query) old.plan d.plan (bags_at query.sources items)
      like = record {
        typed = means-typed (schemas_of query) old.plan d.plan meant
            (subst (λ (ss : List (List Kind)). IsTyped old.plan ss) r.schemas_are sound.typed);
        answers = record {
          kinds = ap (λ (o : Option (List Kind)). unwrap_or o []) (sym meant.kinds);
          answers = λ t within. SameBag-sym
              (meant.answers (bags_at query.sources items t) (given.fit t));
        };
        reads = λ source. (let keeps = leaves (schemas_of query) old.plan d.steps d.plan
            (subst (λ (q : Plan). Derives (schemas_of query) q d.steps d.plan) r.plan_is comes)
            source in (keeps.0, keeps.1));
      }

      served : Serves new.live (schemas_of query) query.plan d.plan (old.plan ∷ told.earlier)
          (bags_at query.sources items) by_source (entries ++ more)
      served = b.holds (schemas_of query) query.plan old.plan d.plan told.earlier
          (bags_at query.sources items) by_source (entries ++ more)
          (t.holds (schemas_of query) query.plan old.plan told.earlier
          (bags_at query.sources items) by_source entries r.serves) may-split like
          (subst (λ (ss : List (List Kind)). WorksStand next.works ss d.plan no_messages [])
          r.schemas_are stands)

      served-now : Serves new.live (schemas_of query) query.plan new.plan (told.plan ∷ told.earlier)
          (bags_at query.sources items) by_source (entries ++ more)
      served-now = subst (λ (q : Plan). Serves new.live (schemas_of query) query.plan q
          (told.plan ∷ told.earlier) (bags_at query.sources items) by_source (entries ++ more))
          (sym plan)
          (subst (λ (q : Plan). Serves new.live (schemas_of query) query.plan d.plan
          (q ∷ told.earlier) (bags_at query.sources items) by_source (entries ++ more))
          (sym r.plan_is) served)

      pub accept-on : IsRunning new query items asks later by_source (entries ++ more)
      accept-on = running-on new query items asks later by_source entries more now_told now_is
          (schemas ∙ r.schemas_are) refl (sym plan) served-now known (beat_now old)
          (let beat = given.beat_is in omega (arith, beat))
          (let one = b.beat in let two = t.beat in omega (arith, one, two))
          (subst (λ (x : AllTold). Keeps new.replies x known (beat_now old)) now_is step.1)
          (λ not alone. b.moving alone) r.follow (step.0, tt) r.going
          (accepted-goes new.replies.accepted split, tt)
          (coalesced-new entries new.replies.accepted split r.coalesced
          (subst (λ (n : ℕ). CoalescedAt (results (entries ++ more)) n) b.split_is
          (whole b.moving (schemas_of query) query.plan d.plan (old.plan ∷ told.earlier)
          (bags_at query.sources items) by_source (entries ++ more) served)))
          (r.end_is ∙ sym ends)

    pub accepts-in : RepliesIn old new (a_migration d)
    accepts-in = record {
      more = more;
      entries = b.entries ∙ append-nil _ ∙ t.entries;
      none = refl;
      beat = b.beat ∙ t.beat;
      runs = λ query items asks later by_source entries known end p given.
          accept-on query items asks later by_source entries known end p given;
    }

-- ---- what stays sound

pub sound-after : (old new : Serving) → IsSound old → IsWholeLive new.live
    → length new.live.sources.items ≡ length old.live.sources.items
    → new.schemas ≡ old.schemas → IsTyped new.plan old.schemas → Checks old.schemas new.plan
    → new.workers ≡ old.workers → new.end ≡ old.end → new.replies.last ≤ closed → IsSound new
sound-after old new sound live count schemas typed checks workers end last = record {
  live = live;
  count = count ∙ sound.count ∙ sym (ap length schemas);
  typed = subst (λ (ss : List (List Kind)). IsTyped new.plan ss) (sym schemas) typed;
  checks = subst (λ (ss : List (List Kind)). Checks ss new.plan) (sym schemas) checks;
  some_workers = (let some = sound.some_workers in omega (arith, some, workers));
  most_workers = (let most = sound.most_workers in omega (arith, most, workers));
  end = (let low = sound.end in omega (arith, low, end));
  last = last;
}
