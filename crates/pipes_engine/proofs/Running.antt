-- A run, by what was told of it, whichever way that was found.
use Rattle.std.proofs.Common.{◌≡◌, ℕ, zero, suc, ◌≤◌, ◌<◌, List, ◌++◌, length}
use Rattle.std.proofs.Common.{sym, ap, subst, ◌∙◌, arith}
use Rattle.std.proofs.lemmas.List.{length-map}
use Rattle.pipes_time.specs.Interval.{closed}
use Rattle.pipes_tuple.specs.declared.value.Kind.{Kind}
use Rattle.pipes_stream.specs.declared.Elem.{Elem}
use Rattle.pipes_stream.specs.Lists.{beat}
use Rattle.pipes_stream.specs.Lawful.{Lists, least}
use Rattle.pipes_plan.specs.declared.plan.Plan.{Plan}
use Rattle.pipes_plan.specs.PlanKinds.{IsTyped}
use Rattle.pipes_window.specs.declared.item.Item.{Item}
use Rattle.pipes_query.specs.declared.query.Query.{Query}
use Rattle.pipes_query.specs.declared.query.SourceDecl.{SourceDecl}
use Rattle.pipes_output.specs.declared.entry.Entry.{Entry}
use Rattle.pipes_semantics.specs.Answer.{bags_at, schemas_of}
use Rattle.pipes_works.specs.Sources.{Reads}
use Rattle.pipes_derivation.specs.declared.derivation.Derivation.{Derivation}
use Rattle.pipes_told.specs.Asks.{Ask}
use Rattle.pipes_told.specs.Told.{nothing_told, after_entries}
use Rattle.pipes_told.specs.Pacing.{Follow, GoesOn}
use Rattle.pipes_told.specs.Coalesced.{Coalesced}
use Rattle.pipes_told.specs.Steep.{steep}
use Rattle.pipes_told.proofs.Calls.{after-append, Follow-append}
use Rattle.pipes_replies.specs.Leading.{target, ComesTo}
use Rattle.pipes_replies.specs.Keeping.{Keeps}
use Rattle.pipes_replies.specs.Telling.{AllTold}
use Rattle.pipes_replies.specs.declared.stage.Stage.TheVariants.{Calm}
use Rattle.pipes_live.specs.Lives.{Serves, IsAlone}
use Rattle.pipes_course.specs.Known.{all_spans, last_end}
use Rattle.pipes_course.specs.Given.{elements_from}
use Rattle.pipes_engine.specs.declared.serving.Serving.{Serving}
use Rattle.pipes_engine.specs.Runs.{IsRunning, IsSound, told_by, beat_now}
use Rattle.pipes_engine.proofs.Reading.{reads-within}
use Rattle.pipes_engine.proofs.Entries.{goes-append}

abbrev pub spans_of : Query → List (List Item) → List Elem
spans_of query items = all_spans query.sources items

-- what is told with more entries
pub told-more : (query : Query) (items : List (List Item)) (asks : List (Ask Derivation))
    (entries more : List Entry)
    → told_by query asks (entries ++ more) ≡ after_entries target (told_by query asks entries) more
told-more query items asks entries more =
    after-append target (ComesTo (schemas_of query)) steep (spans_of query items)
    (nothing_told query.plan asks) entries more

-- The run goes on with more entries, after which this is told.
module _ (new : Serving) (query : Query) (items : List (List Item))
    (asks later : List (Ask Derivation)) (by_source : Lists) (entries more : List Entry)
    (told : AllTold)
    (is : after_entries target (told_by query asks entries) more ≡ told)
    (schemas_are : new.schemas ≡ schemas_of query)
    (later_are : told.asks ≡ later) (plan_is : told.plan ≡ new.plan)
    (serves : Serves new.live (schemas_of query) query.plan new.plan told.earlier
    (bags_at query.sources items) by_source (entries ++ more))
    (inputs output : ℕ) (inputs_low : inputs ≤ least (length query.sources) by_source)
    (output_low : output ≤ beat_now new) (keeps : Keeps new.replies told inputs output)
    (moving : (new.replies.stage ≡ Calm → ⊥) → IsAlone new.live.state → ⊥)
    (followed : Follow target (ComesTo (schemas_of query)) steep (spans_of query items)
    (nothing_told query.plan asks) entries)
    (follow : Follow target (ComesTo (schemas_of query)) steep (spans_of query items)
    (told_by query asks entries) more)
    (went : GoesOn entries) (goes : GoesOn more) (coalesced : Coalesced (entries ++ more))
    (end_is : last_end (elements_from 0 query.sources by_source) ≡ new.end) where
  same : told_by query asks (entries ++ more) ≡ told
  same = told-more query items asks entries more ∙ is

  pub running-on : IsRunning new query items asks later by_source (entries ++ more)
  running-on = record {
    schemas_are = schemas_are;
    later_are = ap (λ (t : AllTold). t.asks) same ∙ later_are;
    plan_is = ap (λ (t : AllTold). t.plan) same ∙ plan_is;
    serves = subst (λ (ps : List Plan). Serves new.live (schemas_of query) query.plan new.plan ps
        (bags_at query.sources items) by_source (entries ++ more))
        (sym (ap (λ (t : AllTold). t.earlier) same)) serves;
    inputs = inputs;
    output = output;
    inputs_low = inputs_low;
    output_low = output_low;
    keeps = subst (λ (t : AllTold). Keeps new.replies t inputs output) (sym same) keeps;
    moving = moving;
    follow = Follow-append target (ComesTo (schemas_of query)) steep (spans_of query items)
        (nothing_told query.plan asks) entries more followed follow;
    going = goes-append entries more went goes;
    coalesced = coalesced;
    end_is = end_is;
  }

-- ---- sources

-- there are as many as the query has
pub sources-count : (s : Serving) (query : Query) → IsSound s → s.schemas ≡ schemas_of query
    → length s.live.sources.items ≡ length query.sources
sources-count s query sound is =
    sound.count ∙ ap length is
    ∙ length-map query.sources (λ (d : SourceDecl). d.schema)

-- and the plan reads none but these
pub within-sources : (s : Serving) (query : Query) → IsSound s → s.schemas ≡ schemas_of query
    → (source : ℕ) → Reads (schemas_of query) s.plan source → source < length query.sources
within-sources s query sound is source reads =
    let low = reads-within (schemas_of query) s.plan source
    (subst (λ (ss : List (List Kind)). IsTyped s.plan ss) is sound.typed) reads in
    let count = length-map query.sources (λ (d : SourceDecl). d.schema) in
    omega (arith, low, count)

pub least-closed : (n : ℕ) (lists : Lists) → least n lists ≤ closed
least-closed zero lists = omega arith
least-closed (suc n) lists = let more = least-closed n lists in omega (arith, more)

pub least-rises : (n : ℕ) (old new : Lists) → ((k : ℕ) → beat (old k) ≤ beat (new k))
    → least n old ≤ least n new
least-rises zero old new up = omega arith
least-rises (suc n) old new up =
    let more = least-rises n old new up in let one = up n in omega (arith, more, one)
