-- What came to the top was written.
use Rattle.std.proofs.Common.{◌≡◌, ℕ, ◌≤◌, ◌<◌, List, ◌++◌, map, sym, ap, subst}
use Rattle.std.proofs.Common.{◌∙◌, arith}
use Rattle.std.specs.List.{All}
use Rattle.std.proofs.lemmas.List.Elements.{All-same, All-weaker}
use Rattle.pipes_time.specs.Interval.{closed, IsInterval}
use Rattle.pipes_tuple.specs.declared.value.Kind.{Kind}
use Rattle.pipes_stream.specs.declared.Elem.{Elem}
use Rattle.pipes_stream.specs.Lists.{elements}
use Rattle.pipes_stream.specs.Lawful.{Lists}
use Rattle.pipes_stream.proofs.Ports.{All-parts}
use Rattle.pipes_plan.specs.declared.plan.Plan.{Plan}
use Rattle.pipes_window.specs.declared.item.Item.{Item}
use Rattle.pipes_query.specs.declared.query.Query.{Query}
use Rattle.pipes_output.specs.declared.entry.Entry.{Entry}
use Rattle.pipes_output.specs.declared.entry.Entry.TheVariants as entry
use Rattle.pipes_semantics.specs.Answer.{bags_at, schemas_of}
use Rattle.pipes_semantics.specs.Written.{results}
use Rattle.pipes_semantics.specs.Right.{Final, IsResultOf}
use Rattle.pipes_written.specs.Written.{results_of}
use Rattle.pipes_written.proofs.Splits.{results-append, results-map}
use Rattle.pipes_standing.specs.Calms.{Rows, AllFed}
use Rattle.pipes_derivation.specs.declared.derivation.Derivation.{Derivation}
use Rattle.pipes_told.specs.Asks.{Ask}
use Rattle.pipes_told.specs.Told.{nothing_told, after_entries}
use Rattle.pipes_told.specs.Pacing.{Follow}
use Rattle.pipes_told.specs.Coalesced.{CoalescedAt, Coalesced}
use Rattle.pipes_told.specs.Steep.{steep}
use Rattle.pipes_replies.specs.Leading.{target, ComesTo}
use Rattle.pipes_replies.specs.declared.replies.Replies.{Replies}
use Rattle.pipes_replies.specs.Keeping.{Keeps}
use Rattle.pipes_replies.specs.Telling.{AllTold}
use Rattle.pipes_replies.proofs.Calls.{tells-results}
use Rattle.pipes_live.specs.declared.live.Live.{Live}
use Rattle.pipes_live.specs.Lives.{Serves, IsAlone}
use Rattle.pipes_live.specs.Deeds.{Stays}
use Rattle.pipes_live.specs.Deeds.{Settles as SettlesLive}
use Rattle.pipes_course.specs.Given.{HaveGiven}
use Rattle.pipes_engine.specs.declared.serving.Serving.{Serving}
use Rattle.pipes_engine.specs.Runs.{IsRunning, IsSound, IsInOrder, told_by, beat_now}
use Rattle.pipes_engine.specs.Deeds.{AnswersIn, Rises, nothing_asked}
use Rattle.pipes_engine.specs.Parts.{SameBeside}
use Rattle.pipes_engine.proofs.Splits.{StartsFrom, coalesced-more}
use Rattle.pipes_engine.proofs.Entries.{all-both, goes-results, none-results}
use Rattle.pipes_engine.proofs.Running.{spans_of, running-on, within-sources}

-- what is written of a query is final, and no result is cut in two at the split: laws of `Live`
abbrev pub IsFinal : Live → Type 0
IsFinal l = (query : Query) (items : List (List Item)) (plan : Plan) (earlier : List Plan)
    (by_source : Lists) (entries : List Entry)
    → Serves l (schemas_of query) query.plan plan earlier (bags_at query.sources items) by_source
    entries → Final query items entries

abbrev pub Coalesces : Live → Type 0
Coalesces l = (IsAlone l.state → ⊥) → (schemas : List (List Kind)) (query plan : Plan)
    (earlier : List Plan) (rows : Rows) (by_source : Lists) (entries : List Entry)
    → Serves l schemas query plan earlier rows by_source entries
    → CoalescedAt (results entries) l.split

-- results are intervals
pub are-intervals : (query : Query) (items : List (List Item)) (entries : List Entry)
    (es : List Elem) → Final query items (entries ++ map entry.Result es)
    → All (λ e. IsInterval e.span.start e.span.end) es
are-intervals query items entries es final =
    let all : All (IsResultOf query) (results entries ++ es) =
    All-same (IsResultOf query) (results entries ++ es)
    (results (entries ++ map entry.Result es))
    (sym (results-append entries (map entry.Result es)
    ∙ ap (λ (xs : List Elem). results entries ++ xs) (results-map es))) final.ordered.typed in
    All-weaker (IsResultOf query) (λ (e : Elem). IsInterval e.span.start e.span.end) (λ e h. h.0)
    es (All-parts (IsResultOf query) (results entries) es all).1

module _ (old new : Serving) (sound : IsSound old) (order : IsInOrder old)
    (same : SameBeside old new) (stays : Stays old.live new.live)
    (t : SettlesLive old.live new.live) (final : IsFinal new.live) (whole : Coalesces new.live)
  where
    abbrev made : List Entry
    made = results_of t.sent

    module _ (query : Query) (items : List (List Item)) (asks later : List (Ask Derivation))
        (by_source : Lists) (entries : List Entry) (inputs end : ℕ)
        (r : IsRunning old query items asks later by_source entries)
        (given : HaveGiven query.sources items inputs end by_source) where
      abbrev told : AllTold
      told = told_by query asks entries

      fed : AllFed (schemas_of query) old.plan (bags_at query.sources items) 0 by_source
      fed source t reads from within low =
          given.fed source t (within-sources old query sound r.schemas_are source reads) within low

      served : Serves new.live (schemas_of query) query.plan old.plan told.earlier
          (bags_at query.sources items) by_source (entries ++ made)
      served = t.holds (schemas_of query) query.plan old.plan told.earlier
          (bags_at query.sources items) by_source entries r.serves fed

      intervals : All (λ e. IsInterval e.span.start e.span.end) (elements t.sent)
      intervals = are-intervals query items entries (elements t.sent)
          (final query items old.plan told.earlier by_source (entries ++ made) served)

      starts : All (λ e. beat_now old ≤ e.span.start) (elements t.sent)
      starts = (t.advances (schemas_of query) query.plan old.plan told.earlier
          (bags_at query.sources items) by_source entries r.serves).starts

      from : All (StartsFrom (beat_now old)) (elements t.sent)
      from = all-both (λ (e : Elem). IsInterval e.span.start e.span.end)
          (λ (e : Elem). beat_now old ≤ e.span.start) (elements t.sent) intervals starts

      from-results : All (StartsFrom (beat_now old)) (results made)
      from-results = All-same (StartsFrom (beat_now old)) (results made) (elements t.sent)
          (results-map (elements t.sent)) from

      rises : Rises old new made
      rises = record {
        beat = (t.advances (schemas_of query) query.plan old.plan told.earlier
            (bags_at query.sources items) by_source entries r.serves).rises;
        starts = from-results;
      }

      later-from : All (λ e. (r.output ≤ e.span.start) × (e.span.start < closed)) (elements t.sent)
      later-from = All-weaker (StartsFrom (beat_now old))
          (λ (e : Elem). (r.output ≤ e.span.start) × (e.span.start < closed))
          (λ e h. (
            let up = r.output_low in let low = h.1 in omega (arith, up, low),
            let short = h.0.0 in let within = h.0.1 in omega (arith, short, within),
          ))
          (elements t.sent) from

      tells : Follow target (ComesTo (schemas_of query)) steep (spans_of query items) told made
          × (after_entries target told made ≡ told)
      tells = tells-results old.replies (elements t.sent) (schemas_of query) (spans_of query items)
          told r.inputs r.output r.keeps later-from

      from-known : All (StartsFrom r.output) (results made)
      from-known = All-weaker (StartsFrom (beat_now old)) (StartsFrom r.output)
          (λ e h. (h.0, (let up = r.output_low in let low = h.1 in omega (arith, up, low))))
          (results made) from-results

      now_keeps : Keeps new.replies told r.inputs r.output
      now_keeps = subst (λ (x : Replies). Keeps x told r.inputs r.output) (sym same.replies) r.keeps

      coalesced : Coalesced (entries ++ made)
      coalesced = coalesced-more target (ComesTo (schemas_of query)) steep (spans_of query items)
          (nothing_told query.plan asks) old.replies r.inputs r.output entries made r.follow
          r.keeps from-known (λ number split c. none-results (elements t.sent) number split c)
          (λ goes. subst (λ (n : ℕ). CoalescedAt (results (entries ++ made)) n)
          (stays.split ∙ order.split_is)
          (whole (λ alone. r.moving goes (stays.alone.1 alone)) (schemas_of query) query.plan
          old.plan told.earlier (bags_at query.sources items) by_source (entries ++ made) served))
          r.coalesced

      pub now-running : IsRunning new query items asks later by_source (entries ++ made)
      now-running = running-on new query items asks later by_source entries made told tells.1
          (same.schemas ∙ r.schemas_are) r.later_are (r.plan_is ∙ sym same.plan)
          (subst (λ (p : Plan). Serves new.live (schemas_of query) query.plan p told.earlier
          (bags_at query.sources items) by_source (entries ++ made)) (sym same.plan) served)
          r.inputs r.output r.inputs_low
          (let up = r.output_low in let more = rises.beat in omega (arith, up, more)) now_keeps
          (λ not alone. r.moving (λ calm. not (ap (λ (x : Replies). x.stage) same.replies ∙ calm))
          (stays.alone.1 alone)) r.follow tells.0 r.going (goes-results (elements t.sent)) coalesced
          (r.end_is ∙ sym same.end)

    pub writes : AnswersIn old new nothing_asked
    writes = record {
      more = made;
      entries = t.entries;
      runs = λ query items asks later by_source entries inputs end r given. (
        rises query items asks later by_source entries inputs end r given,
        now-running query items asks later by_source entries inputs end r given,
      );
    }
