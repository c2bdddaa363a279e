-- What is told of the migration in progress.
use Rattle.std.proofs.Common.{◌≡◌, ◌⊎◌, ◌↔◌, ℕ, ◌≤◌, ◌<◌, Bool, true, false, List, [], ◌∷◌, ◌++◌}
use Rattle.std.proofs.Common.{length}
use Rattle.std.proofs.Common.{inl, inr, refl, sym, ap, subst, ◌∙◌, arith, append-nil}
use Rattle.std.specs.Bool.{IsTrue}
use Rattle.pipes_time.specs.Interval.{closed}
use Rattle.pipes_tuple.specs.declared.value.Kind.{Kind}
use Rattle.pipes_stream.specs.Lawful.{Lists, least}
use Rattle.pipes_plan.specs.declared.plan.Plan.{Plan}
use Rattle.pipes_window.specs.declared.item.Item.{Item}
use Rattle.pipes_query.specs.declared.query.Query.{Query}
use Rattle.pipes_output.specs.declared.entry.Entry.{Entry}
use Rattle.pipes_semantics.specs.Answer.{bags_at, schemas_of}
use Rattle.pipes_standing.specs.Calms.{Rows}
use Rattle.pipes_derivation.specs.declared.derivation.Derivation.{Derivation}
use Rattle.pipes_told.specs.Asks.{Ask}
use Rattle.pipes_told.specs.Told.{Move, after_entries, last_split}
use Rattle.pipes_told.specs.Pacing.{EachMove, IsOver, Follow}
use Rattle.pipes_told.specs.Steep.{steep}
use Rattle.pipes_replies.specs.Leading.{target, ComesTo}
use Rattle.pipes_replies.specs.declared.replies.Replies.{Replies}
use Rattle.pipes_replies.specs.declared.replies.Paced.{Paced}
use Rattle.pipes_replies.specs.declared.stage.Stage.{Stage}
use Rattle.pipes_replies.specs.declared.stage.Stage.TheVariants.{Calm, Moving}
use Rattle.pipes_replies.specs.Keeping.{IsAt, IsPast, Keeps, KeepsPaced}
use Rattle.pipes_replies.specs.Telling.{AllTold, Paces, NumbersStay, ArePaces, told_in}
use Rattle.pipes_live.specs.declared.live.Live.{Live}
use Rattle.pipes_live.specs.Lives.{Serves, IsAlone, beat_in, entries_in}
use Rattle.pipes_live.specs.Deeds.{Stays, HasPassed, Reaches}
use Rattle.pipes_live.specs.Deeds.{Tells as TellsLive}
use Rattle.pipes_course.specs.Given.{HaveGiven}
use Rattle.pipes_engine.specs.declared.serving.Serving.{Serving}
use Rattle.pipes_engine.specs.Runs.{IsRunning, IsPacedAt, IsSound, IsInOrder, told_by, beat_now}
use Rattle.pipes_engine.specs.Parts.{PacesIn, MayPace, DropsOld}
use Rattle.pipes_engine.proofs.Splits.{HasMove, IsBehind, entries-have, coalesced-same}
use Rattle.pipes_engine.proofs.Entries.{EachPace, each-pace, no-results, goes-pace, none-pace}
use Rattle.pipes_engine.proofs.Entries.{SameTold, same-told}
use Rattle.pipes_engine.proofs.Running.{spans_of, running-on, told-more, sources-count}
use Rattle.pipes_engine.proofs.Running.{least-closed}

-- how far it comes once settled, and where the inputs are: laws of `Live`
abbrev pub KeepsUp : Live → Type 0
KeepsUp l = (schemas : List (List Kind)) (query plan : Plan) (earlier : List Plan) (rows : Rows)
    (by_source : Lists) (entries : List Entry)
    → Serves l schemas query plan earlier rows by_source entries
    → Reaches l schemas plan earlier (least (length l.sources.items) by_source) by_source

abbrev pub IsInputsBeat : Live → ℕ → Type 0
IsInputsBeat l n = (schemas : List (List Kind)) (query plan : Plan) (earlier : List Plan)
    (rows : Rows) (by_source : Lists) (entries : List Entry)
    → Serves l schemas query plan earlier rows by_source entries
    → n ≡ least (length l.sources.items) by_source

-- ---- what the stage says of the last migration

-- one was accepted, where it is in progress
moving-has : (inputs last : ℕ) (stage : Stage) (ms : List Move) → IsAt inputs stage ms
    → last_split ms ≡ last → (stage ≡ Calm → ⊥) → HasMove last ms
moving-has inputs last Calm ms at is goes = absurd (goes refl)
moving-has inputs last (Moving s idle) [] at is goes = absurd at
moving-has inputs last (Moving s idle) (m ∷ ms) at is goes = inl is

-- where all are over, the inputs have reached each split, and the output is past it
over-past : (inputs output split : ℕ) (ms : List Move) → EachMove IsOver ms
    → EachMove (λ m. IsTrue m.over → IsPast inputs output m) ms → HasMove split ms
    → (split ≤ inputs) × IsBehind inputs output split
over-past inputs output split [] over past has = absurd has
over-past inputs output split (m ∷ ms) over past (inl is) =
    subst (λ (n : ℕ). (n ≤ inputs) × IsBehind inputs output n) is
    ((past.0 over.0.1).reached, (past.0 over.0.1).passed)
over-past inputs output split (m ∷ ms) over past (inr has) =
    over-past inputs output split ms over.1 past.1 has

calm-past : (r : Replies) (told : AllTold) (inputs output split : ℕ)
    → Keeps r told inputs output → r.stage ≡ Calm → HasMove split told.moves
    → (split ≤ inputs) × IsBehind inputs output split
calm-past r told inputs output split k calm has =
    over-past inputs output split told.moves
    (subst (λ (s : Stage). IsAt inputs s told.moves) calm k.at) k.past has

-- ---- the heartbeats

-- how far it comes, where the inputs are known
pub reached-known : (old : Serving) → IsSound old → KeepsUp old.live → (query : Query)
    (items : List (List Item)) (asks later : List (Ask Derivation)) (by_source : Lists)
    (entries : List Entry) (known end : ℕ)
    → IsRunning old query items asks later by_source entries
    → HaveGiven query.sources items known end by_source
    → Reaches old.live (schemas_of query) old.plan (told_by query asks entries).earlier known
    by_source
reached-known old sound up query items asks later by_source entries known end r given =
    subst (λ (n : ℕ). Reaches old.live (schemas_of query) old.plan
    (told_by query asks entries).earlier n by_source)
    (ap (λ (n : ℕ). least n by_source) (sources-count old query sound r.schemas_are)
    ∙ given.beat_is)
    (up (schemas_of query) query.plan old.plan (told_by query asks entries).earlier
    (bags_at query.sources items) by_source entries r.serves)

module _ (old : Serving) (sound : IsSound old) (inputs : ℕ)
    (up : KeepsUp old.live) (inputs_is : IsInputsBeat old.live inputs) where
  module _ (query : Query) (items : List (List Item)) (asks later : List (Ask Derivation))
      (by_source : Lists) (entries : List Entry) (known end : ℕ)
      (r : IsRunning old query items asks later by_source entries)
      (given : HaveGiven query.sources items known end by_source) where
    least-is : inputs ≡ least (length old.live.sources.items) by_source
    least-is = inputs_is (schemas_of query) query.plan old.plan
        (told_by query asks entries).earlier (bags_at query.sources items) by_source entries
        r.serves

    -- the inputs are where the sources are
    pub known-is : inputs ≡ known
    known-is = least-is
        ∙ ap (λ (n : ℕ). least n by_source) (sources-count old query sound r.schemas_are)
        ∙ given.beat_is

    come : Reaches old.live (schemas_of query) old.plan
        (told_by query asks entries).earlier known by_source
    come = reached-known old sound up query items asks later by_source entries known end r given

    pub may-pace : MayPace inputs (beat_now old)
    may-pace = (
      (let low = least-closed (length old.live.sources.items) by_source in
          omega (arith, low, least-is)),
      λ all. come.ends (sym known-is ∙ all),
    )

  -- where the heartbeats are none that may be, nothing was run
  pub paces-not : (MayPace inputs (beat_now old) → ⊥) → PacesIn old old
  paces-not never = record {
    more = [];
    entries = sym (append-nil (entries_in old.live.state));
    none = refl;
    beat = refl;
    runs = λ query items asks later by_source entries known end r given.
        absurd (never (may-pace query items asks later by_source entries known end r given));
  }

-- ---- what is told

module _ (old new : Serving) (sound : IsSound old) (order : IsInOrder old) (inputs : ℕ)
    (up : KeepsUp old.live) (inputs_is : IsInputsBeat old.live inputs) (p : Paced)
    (paces : Paces old.replies new.replies inputs (beat_now old) (told_in p))
    (are : ArePaces p) (numbers : NumbersStay old.replies new.replies) (live : Live)
    (stays : Stays old.live live) (t : TellsLive old.live live (told_in p)) (over : Bool)
    (over_is : IsTrue over ↔ (new.replies.stage ≡ Calm)) (d : DropsOld live new.live over)
    (schemas : new.schemas ≡ old.schemas) (plan : new.plan ≡ old.plan) (ends : new.end ≡ old.end)
  where
    abbrev more : List Entry
    more = told_in p

    each : EachPace more
    each = each-pace p are

    moving-on : ((new.replies.stage ≡ Calm → ⊥) → over ≡ false)
    moving-on not = by over over_is.0
      where
        by : (b : Bool) → (IsTrue b → new.replies.stage ≡ Calm) → b ≡ false
        by true calm = absurd (not (calm refl))
        by false calm = refl

    pub order-after : IsInOrder new
    order-after = record {
      calm = λ calm. d.alone (over_is.1 calm);
      split_is = d.split ∙ stays.split ∙ order.split_is ∙ sym numbers.last;
    }

    module _ (query : Query) (items : List (List Item)) (asks later : List (Ask Derivation))
        (by_source : Lists) (entries : List Entry) (known end : ℕ)
        (r : IsRunning old query items asks later by_source entries)
        (given : HaveGiven query.sources items known end by_source) where
      abbrev told : AllTold
      told = told_by query asks entries

      abbrev now_told : AllTold
      now_told = after_entries target told more

      is-known : inputs ≡ known
      is-known = known-is old sound inputs up inputs_is query items asks later by_source entries
          known end r given

      reaches : Reaches old.live (schemas_of query) old.plan told.earlier known by_source
      reaches = reached-known old sound up query items asks later by_source entries known end r
          given

      step : Follow target (ComesTo (schemas_of query)) steep (spans_of query items) told more
          × KeepsPaced new.replies now_told inputs (beat_now old)
      step = paces (schemas_of query) (spans_of query items) told r.inputs r.output r.keeps
          (let low = r.inputs_low in let beat = given.beat_is in omega (arith, low, beat, is-known))
          r.output_low

      same : SameTold told now_told
      same = same-told target told more each

      -- the migration has passed, where it is over now
      passed : IsTrue over → (IsAlone live.state → ⊥)
          → HasPassed (schemas_of query) old.plan live.split (beat_in live.state) by_source
      passed done alone =
          let goes : old.replies.stage ≡ Calm → ⊥ =
          λ calm. alone (stays.alone.0 (order.calm calm)) in
          let has : HasMove old.replies.last told.moves =
          moving-has r.inputs old.replies.last old.replies.stage told.moves r.keeps.at r.keeps.last
          goes in
          let past = calm-past new.replies now_told inputs (beat_now old) old.replies.last
          step.1.keeps (over_is.0 done)
          (entries-have target told old.replies.last more has) in
          let split = order.split_is in
          let far : ((old.live.split ≤ known) × (old.live.split < beat_now old))
          ⊎ (known ≡ closed) =
          elim past.1 [
            | inl behind ↦ inl (
              (let low = past.0 in omega (arith, low, split, is-known)),
              omega (arith, behind, split),
            )
            | inr all ↦ inr (sym is-known ∙ all.0)
          ] in
          let out = reaches.passes far in
          subst (λ (n : ℕ). HasPassed (schemas_of query) old.plan n (beat_in live.state) by_source)
          (sym stays.split)
          (subst (λ (n : ℕ). HasPassed (schemas_of query) old.plan old.live.split n by_source)
          (sym t.beat) out)

      served : Serves new.live (schemas_of query) query.plan old.plan told.earlier
          (bags_at query.sources items) by_source (entries ++ more)
      served = d.holds (schemas_of query) query.plan old.plan told.earlier
          (bags_at query.sources items) by_source (entries ++ more)
          (t.holds (schemas_of query) query.plan old.plan told.earlier
          (bags_at query.sources items) by_source entries r.serves) passed

      served-now : Serves new.live (schemas_of query) query.plan new.plan now_told.earlier
          (bags_at query.sources items) by_source (entries ++ more)
      served-now = subst (λ (q : Plan). Serves new.live (schemas_of query) query.plan q
          now_told.earlier (bags_at query.sources items) by_source (entries ++ more)) (sym plan)
          (subst (λ (ps : List Plan). Serves new.live (schemas_of query) query.plan old.plan ps
          (bags_at query.sources items) by_source (entries ++ more)) (sym same.earlier) served)

      beats : beat_now new ≡ beat_now old
      beats = d.beat ∙ t.beat

      pub paced-on : IsPacedAt new query items asks later by_source (entries ++ more) known
      paced-on = record {
        running = running-on new query items asks later by_source entries more now_told refl
            (schemas ∙ r.schemas_are) (same.asks ∙ r.later_are)
            (same.plan ∙ r.plan_is ∙ sym plan) served-now inputs (beat_now old)
            (let beat = given.beat_is in omega (arith, beat, is-known))
            (let b = beats in omega (arith, b)) step.1.keeps
            (λ not alone. r.moving
            (λ calm. not (numbers.calm calm))
            (stays.alone.1 (subst (λ (l : Live). IsAlone l.state) (d.stays (moving-on not)) alone)))
            r.follow step.0 r.going (goes-pace more each)
            (coalesced-same entries more (no-results more each)
            (λ number split c. none-pace more number split each c) r.coalesced)
            (r.end_is ∙ sym ends);
        paced = subst (λ (t : AllTold). KeepsPaced new.replies t known (beat_now new))
            (sym (told-more query items asks entries more))
            (subst (λ (n : ℕ). KeepsPaced new.replies now_told n (beat_now new)) is-known
            (subst (λ (n : ℕ). KeepsPaced new.replies now_told inputs n) (sym beats) step.1));
      }

    pub paces-in : PacesIn old new
    paces-in = record {
      more = more;
      entries = d.entries ∙ t.entries;
      none = no-results more each;
      beat = d.beat ∙ t.beat;
      runs = λ query items asks later by_source entries known end r given.
          paced-on query items asks later by_source entries known end r given;
    }
