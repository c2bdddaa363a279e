-- A run from turn to turn.
use Rattle.std.proofs.Common.{◌≡◌, ℕ, ◌+◌, ◌≤◌, ◌<◌, List, [], ◌∷◌, ◌++◌, length, get_or, set, map}
use Rattle.std.proofs.Common.{slice_get, unwrap_or, Option, None, Some, refl, sym, ◌∙◌, ap, subst}
use Rattle.std.proofs.Common.{arith, append_assoc, length-set}
use Rattle.std.specs.List.{sum_by}
use Rattle.std.proofs.lemmas.List.{length-map, append-nil}
use Rattle.std.proofs.lemmas.List.Sums.{sum_by-set}
use Rattle.std.specs.Io.KnownBytes.{Appends}
use Rattle.pipes_tuple.specs.declared.value.Kind.{Kind}
use Rattle.pipes_stream.specs.declared.Elem.{Elem}
use Rattle.pipes_stream.specs.declared.message.Message.{Message}
use Rattle.pipes_stream.specs.Lists.{run, start_of_list, elements}
use Rattle.pipes_stream.specs.Lawful.{Lists}
use Rattle.pipes_stream.proofs.Messages.{elements-append}
use Rattle.pipes_plan.specs.declared.plan.Plan.{Plan}
use Rattle.pipes_node.proofs.NodeSteps.{get-any}
use Rattle.pipes_window.specs.declared.item.Item.{Item}
use Rattle.pipes_output.specs.declared.form.Form.{Form}
use Rattle.pipes_feed.specs.declared.reason.Reason.{Reason}
use Rattle.pipes_feed.specs.Items.{arrivals_of}
use Rattle.pipes_query.specs.declared.query.Query.{Query}
use Rattle.pipes_query.specs.declared.query.SourceDecl.{SourceDecl}
use Rattle.pipes_semantics.specs.Answer.{schemas_of}
use Rattle.pipes_results.specs.Answered.{AreResults}
use Rattle.pipes_results.specs.declared.results.Results.{Results}
use Rattle.pipes_results.specs.Kept.{Keeps, StopsEarly, form_of}
use Rattle.pipes_results.proofs.Keeping.{kept-stopped}
use Rattle.pipes_results.proofs.Texts.{results-prefix, early-writes}
use Rattle.pipes_works.specs.declared.input.Input.{Input}
use Rattle.pipes_works.specs.declared.works.Works.{Works}
use Rattle.pipes_works.specs.Standing.{WorksStand, WorksOff, source_count}
use Rattle.pipes_works.specs.Sources.{AnswersSources}
use Rattle.pipes_works.proofs.BySource.{mapped-at}
use Rattle.pipes_intake.specs.declared.intake.Intake.{Intake}
use Rattle.pipes_intake.specs.declared.intake.Step.{Step}
use Rattle.pipes_intake.specs.declared.intake.Turned.{Turned}
use Rattle.pipes_intake.specs.declared.intake.Turned.TheVariants.{Gave, Stopped}
use Rattle.pipes_intake.specs.Taken.{ArePart}
use Rattle.pipes_intake.specs.Giving.{IntakeStands, TurnsTo, StandsForSome, MayPassAll, messages_of}
use Rattle.pipes_intake.specs.Giving.{turns_to_come}
use Rattle.pipes_intake.proofs.Reading.{taken-part}
use Rattle.pipes_inline.specs.declared.underway.Underway.{Underway}
use Rattle.pipes_inline.specs.Standing.{Start, GoesOn, GoesSomehow, CutShort, PartsTaken, PutsAll}
use Rattle.pipes_inline.specs.Standing.{CanPutAll, StopsWithin, with_messages, all_turns}
use Rattle.pipes_inline.specs.Standing.{items_from}
use Rattle.pipes_inline.proofs.Putting.{with-same_all, with-other_all}
use Rattle.pipes_inline.proofs.Places.{at_place, at-same, at-other, source-moves}
use Rattle.pipes_inline.proofs.Answering.{top-results, some-of}

-- the plan at work has the sources of its query
pub count-works : (w : Works) (query : Query) (plan : Plan) (sent : Lists) (got : List Message)
    → WorksStand w (schemas_of query) plan sent got → source_count w ≡ length query.sources
count-works w query plan sent got s =
    sym (length-map w.inputs.items (λ (i : Input). i.schema))
    ∙ ap length s.schemas_are ∙ length-map query.sources (λ (d : SourceDecl). d.schema)

pub schema-at : (query : Query) (place : ℕ) (s : SourceDecl) → place < length query.sources
    → unwrap_or (slice_get (schemas_of query) place) [] ≡ (get_or query.sources place s).schema
schema-at query place s l = mapped-at (λ (d : SourceDecl). d.schema) query.sources place s [] l

-- what came to the top while messages were put
pub top-grows : (done top more top' : List Message) → top' ≡ top ++ more
    → (done ++ top) ++ more ≡ done ++ top'
top-grows done top more top' e = append_assoc done top more
    ∙ ap (λ (l : List Message). done ++ l) (sym e)

pub fewer-turns : (intakes : List Intake) (place : ℕ) (old new : Intake) → place < length intakes
    → old ≡ get_or intakes place old → turns_to_come new < turns_to_come old
    → all_turns (set intakes place new) < all_turns intakes
fewer-turns intakes place old new l is less =
    let e = sum_by-set turns_to_come intakes place new old l in
    let same : turns_to_come (get_or intakes place old) ≡ turns_to_come old =
    ap turns_to_come (sym is) in
    omega (arith, e, same, less)

module _ (start : Start) (lefts : List (Option (List ℕ))) (faults : List ℕ)
    (now : Option (List ℕ)) (old : Underway) (g : GoesOn start lefts faults now old) where
  -- the arrivals taken are a part of those of their source
  pub parts-taken : PartsTaken start g.taken
  parts-taken k l s bytes is =
      let d : Intake = some-of old.intakes.items k (omega (arith, l, g.count)) in
      let stands = g.each k l s d in
      taken-part _ (g.taken k) _ _ (stands.ahead.source bytes is)

  -- results that are on their way, and those that wait for that
  pub all-results : (sent : Lists) (more : List Message)
      → AnswersSources (schemas_of start.query) start.query.plan sent (g.done ++ more)
      → AreResults start.query (elements g.done ++ elements more)
  all-results sent more a = subst (λ (l : List Elem). AreResults start.query l)
      (elements-append g.done more) (top-results start.query sent (g.done ++ more) g.typed a)

  -- nothing more is written
  pub cut-here : AnswersSources (schemas_of start.query) start.query.plan g.sent
      (g.done ++ old.top.items) → CutShort (form_of old.results) start now
  cut-here a =
      let stop = kept-stopped start.written now old.results (elements g.done) g.kept in
      record {
        taken = g.taken;
        parts = parts-taken;
        bytes = stop.0;
        appended = stop.1;
        writes = early-writes (form_of old.results) start.query
            (items_from start.query.sources 0 g.taken) (elements g.done) stop.0
            (results-prefix start.query (elements g.done) (elements old.top.items)
            (all-results g.sent old.top.items a)) stop.2;
      }

  -- the source with this number has a turn
  module _ (place : ℕ) (l : place < length start.query.sources) (left : Option (List ℕ))
      (count : ℕ) (left-is : get_or lefts place None ≡ left)
      (count-is : get_or faults place 0 ≡ count) (m : Intake)
      (read : m ≡ get_or old.intakes.items place m) where
    abbrev Source : SourceDecl
    Source = get_or start.query.sources place (some-of start.query.sources place l)

    pub source-here : IntakeStands Source (get_or start.lefts place None) left
        (get_or start.faults place 0) count m (g.taken place) (g.sent place)
    source-here =
        subst (λ (x : Option (List ℕ)). IntakeStands Source (get_or start.lefts place None) x
        (get_or start.faults place 0) count m (g.taken place) (g.sent place)) left-is
        (subst (λ (n : ℕ). IntakeStands Source (get_or start.lefts place None)
        (get_or lefts place None) (get_or start.faults place 0) n m (g.taken place)
        (g.sent place)) count-is
        (subst (λ (x : Intake). IntakeStands Source (get_or start.lefts place None)
        (get_or lefts place None) (get_or start.faults place 0) (get_or faults place 0) x
        (g.taken place) (g.sent place)) (sym read)
        (g.each place l (some-of start.query.sources place l) m)))

    pub some-here : StandsForSome left count m
    some-here = record {
      s = Source;
      first = get_or start.lefts place None;
      before = get_or start.faults place 0;
      taken = g.taken place;
      list = g.sent place;
      stands = source-here;
    }

    -- the messages of a source may come next
    pub can-put : (ms : List Message) → MayPassAll Source.schema
        (run start_of_list (g.sent place)) ms → CanPutAll old.works place ms
    can-put ms may = record {
      schemas = schemas_of start.query;
      plan = start.query.plan;
      by_source = g.sent;
      got = g.done ++ old.top.items;
      stands = g.works;
      may = subst (λ (ks : List Kind). MayPassAll ks (run start_of_list (g.sent place)) ms)
          (sym (schema-at start.query place (some-of start.query.sources place l) l)) may;
    }

    -- what a turn came to, whatever the source stood for
    abbrev TurnsAll : Option (List ℕ) → ℕ → Intake → Turned → Type 0
    TurnsAll left' count' intake turned = (s : SourceDecl) (first : Option (List ℕ)) (before : ℕ)
        (taken : List Item) (list : List Message)
        → IntakeStands s first left before count m taken list
        → TurnsTo s first left' before count' intake taken list turned

    abbrev TurnsHere : Option (List ℕ) → ℕ → Intake → Turned → Type 0
    TurnsHere left' count' intake turned = TurnsTo Source (get_or start.lefts place None) left'
        (get_or start.faults place 0) count' intake (g.taken place) (g.sent place) turned

    pub turned-here : (left' : Option (List ℕ)) (count' : ℕ) (intake : Intake)
        (turned shown : Turned) → turned ≡ shown → TurnsAll left' count' intake turned
        → TurnsHere left' count' intake shown
    turned-here left' count' intake turned shown is t =
        subst (λ (x : Turned). TurnsHere left' count' intake x) is
        (t Source (get_or start.lefts place None) (get_or start.faults place 0) (g.taken place)
        (g.sent place) source-here)

    module _ (left' : Option (List ℕ)) (count' : ℕ) (intake : Intake) (new : Underway)
        (intakes-are : new.intakes.items ≡ set old.intakes.items place intake)
        (results-are : new.results ≡ old.results) where
      -- the run goes on, where the source stands for these lists, and what it gave was put
      moved : (taken : List Item) (ms : List Message)
          → IntakeStands Source (get_or start.lefts place None) left'
          (get_or start.faults place 0) count' intake taken (g.sent place ++ ms)
          → PutsAll old.works new.works place ms old.top.items new.top.items
          → GoesOn start (set lefts place left') (set faults place count') now new
      moved taken ms stands puts = record {
        typed = g.typed;
        few = g.few;
        count = ap length intakes-are ∙ length-set old.intakes.items place intake ∙ g.count;
        counts = length-set faults place count' ∙ g.counts;
        lefts_are = length-set lefts place left' ∙ g.lefts_are;
        taken = at_place g.taken place taken;
        sent = with_messages g.sent place ms;
        done = g.done;
        each = λ k inside.
            let moves = source-moves start lefts faults old.intakes.items g.taken
            (at_place g.taken place taken) g.sent (with_messages g.sent place ms) place left'
            count' intake
            (λ s.
            let same : Source ≡ get_or start.query.sources place s =
            get-any start.query.sources place (some-of start.query.sources place l) s l in
            rw (at-same g.taken place taken, with-same_all g.sent place ms)
            (subst (λ (d : SourceDecl). IntakeStands d (get_or start.lefts place None) left'
            (get_or start.faults place 0) count' intake taken (g.sent place ++ ms)) same
            stands))
            (λ j n. (at-other g.taken place taken j n, with-other_all g.sent place ms j n))
            (omega (arith, l, g.lefts_are)) (omega (arith, l, g.counts))
            (omega (arith, l, g.count)) k (λ n. g.each k inside) in
            λ s d. subst (λ (xs : List Intake). IntakeStands (get_or start.query.sources k s)
            (get_or start.lefts k None) (get_or (set lefts place left') k None)
            (get_or start.faults k 0) (get_or (set faults place count') k 0) (get_or xs k d)
            (at_place g.taken place taken k) (with_messages g.sent place ms k))
            (sym intakes-are) (moves s d);
        works = subst (λ (l : List Message). WorksStand new.works (schemas_of start.query)
            start.query.plan (with_messages g.sent place ms) l)
            (top-grows g.done old.top.items puts.more new.top.items puts.appended)
            (puts.stands (schemas_of start.query) start.query.plan g.sent
            (g.done ++ old.top.items) g.works);
        kept = subst (λ (r : Results). Keeps start.written now r (elements g.done))
            (sym results-are) g.kept;
      }

      pub turn-gave : (step : Step) → TurnsTo Source (get_or start.lefts place None) left'
          (get_or start.faults place 0) count' intake (g.taken place) (g.sent place) (Gave step)
          → PutsAll old.works new.works place (messages_of step) old.top.items new.top.items
          → GoesOn start (set lefts place left') (set faults place count') now new
      turn-gave step t puts = moved (g.taken place ++ t.0) (messages_of step) t.1 puts

      pub turn-stopped : (why : Reason) → TurnsTo Source (get_or start.lefts place None) left'
          (get_or start.faults place 0) count' intake (g.taken place) (g.sent place)
          (Stopped why)
          → PutsAll old.works new.works place [] old.top.items new.top.items
          → GoesOn start (set lefts place left') (set faults place count') now new
      turn-stopped why t puts = moved (g.taken place) []
          (subst (λ (l : List Message). IntakeStands Source (get_or start.lefts place None) left'
          (get_or start.faults place 0) count' intake (g.taken place) l)
          (sym (append-nil (g.sent place))) t.0) puts

  -- the plan was worked off, and all that came to the top is on its way out
  pub delivered : (works : Works) (top : List Message) (now' : Option (List ℕ)) (new : Underway)
      → WorksOff old.works works old.top.items top → new.works ≡ works
      → new.intakes ≡ old.intakes → new.top.items ≡ []
      → Keeps start.written now' new.results (elements g.done ++ elements top)
      → GoesOn start lefts faults now' new
  delivered works top now' new off works-are intakes-are none kept = record {
    typed = g.typed;
    few = g.few;
    count = rw intakes-are g.count;
    counts = g.counts;
    lefts_are = g.lefts_are;
    taken = g.taken;
    sent = g.sent;
    done = g.done ++ top;
    each = rw intakes-are g.each;
    works =
        let stands : WorksStand works (schemas_of start.query) start.query.plan g.sent
        ((g.done ++ old.top.items) ++ off.more) =
        off.stands (schemas_of start.query) start.query.plan g.sent (g.done ++ old.top.items)
        g.works in
        rw (works-are, none, append-nil (g.done ++ top))
        (subst (λ (l : List Message). WorksStand works (schemas_of start.query)
        start.query.plan g.sent l)
        (top-grows g.done old.top.items off.more top off.appended) stands);
    kept = rw (elements-append g.done top) kept;
  }

  -- the plan was worked off
  pub stands-off : (works : Works) (top : List Message)
      → WorksOff old.works works old.top.items top
      → WorksStand works (schemas_of start.query) start.query.plan g.sent (g.done ++ top)
  stands-off works top off =
      let stands : WorksStand works (schemas_of start.query) start.query.plan g.sent
      ((g.done ++ old.top.items) ++ off.more) =
      off.stands (schemas_of start.query) start.query.plan g.sent (g.done ++ old.top.items)
      g.works in
      subst (λ (l : List Message). WorksStand works (schemas_of start.query)
      start.query.plan g.sent l)
      (top-grows g.done old.top.items off.more top off.appended) stands

  -- it was stopped among what came to the top
  pub cut-sending : (top : List Message)
      → AnswersSources (schemas_of start.query) start.query.plan g.sent (g.done ++ top)
      → (form : Form) (after : Option (List ℕ))
      → StopsWithin start.written after form (elements g.done) (elements top)
      → CutShort form start after
  cut-sending top a form after stop =
      let some = elements g.done ++ stop.0 in
      let all : elements g.done ++ elements top ≡ some ++ stop.1 =
      ap (λ (l : List Elem). elements g.done ++ l) stop.2
      ∙ sym (append_assoc (elements g.done) stop.0 stop.1) in
      record {
        taken = g.taken;
        parts = parts-taken;
        bytes = stop.3.0;
        appended = stop.3.1;
        writes = early-writes form start.query (items_from start.query.sources 0 g.taken) some
            stop.3.0 (results-prefix start.query some stop.1
            (subst (λ (l : List Elem). AreResults start.query l) all
            (all-results g.sent top a))) stop.3.2;
      }

  -- the turns so far are no part of what stands
  pub counted : (n : ℕ) → GoesOn start lefts faults now (record old { turns = n })
  counted n = record {
    typed = g.typed;
    few = g.few;
    count = g.count;
    counts = g.counts;
    lefts_are = g.lefts_are;
    taken = g.taken;
    sent = g.sent;
    done = g.done;
    each = g.each;
    works = g.works;
    kept = g.kept;
  }
