-- The end of a run: each source gives what it has left, and all comes to the top.
use Rattle.std.proofs.Common.{◌≡◌, ◌⊎◌, ℕ, ◌+◌, ◌≤◌, ◌<◌, List, [], ◌∷◌, ◌++◌, length, get_or, set}
use Rattle.std.proofs.Common.{map, slice_get, unwrap_or, Option, None, Some, refl, sym, ◌∙◌, ap}
use Rattle.std.proofs.Common.{subst, arith, append_assoc, length-set, inl, inr}
use Rattle.std.proofs.lemmas.List.{get_or-set_other, append-nil}
use Rattle.pipes_tuple.specs.declared.value.Kind.{Kind}
use Rattle.pipes_stream.specs.declared.Elem.{Elem}
use Rattle.pipes_stream.specs.declared.message.Message.{Message}
use Rattle.pipes_stream.specs.Lists.{run, start_of_list, elements}
use Rattle.pipes_stream.specs.Lawful.{Lists}
use Rattle.pipes_stream.proofs.Messages.{elements-append}
use Rattle.pipes_node.proofs.NodeSteps.{get-any}
use Rattle.pipes_window.specs.declared.item.Item.{Item}
use Rattle.pipes_output.specs.declared.entry.Entry.{Entry}
use Rattle.pipes_output.specs.declared.form.Form.{Form}
use Rattle.pipes_query.specs.declared.query.SourceDecl.{SourceDecl}
use Rattle.pipes_semantics.specs.Answer.{schemas_of}
use Rattle.pipes_semantics.specs.Written.{EndsRun}
use Rattle.pipes_results.specs.Answered.{AreResults, AreAnswers}
use Rattle.pipes_results.specs.declared.results.Results.{Results}
use Rattle.pipes_results.specs.Kept.{Keeps, StopsEarly, WritesPrefixOf, WritesWhole, form_of}
use Rattle.pipes_results.proofs.Texts.{results-prefix, early-writes, prefix-writes, whole-writes}
use Rattle.pipes_works.specs.declared.works.Works.{Works}
use Rattle.pipes_works.specs.Standing.{WorksStand, WorksOff}
use Rattle.pipes_works.specs.Sources.{AnswersSources, KeepsUpWithSources}
use Rattle.pipes_intake.specs.declared.intake.Intake.{Intake}
use Rattle.pipes_intake.specs.declared.intake.Step.{Step}
use Rattle.pipes_intake.specs.Giving.{IntakeStands, HasGiven, Finishes, StandsForSome, MayPassAll}
use Rattle.pipes_intake.specs.Giving.{messages_of}
use Rattle.pipes_inline.specs.declared.underway.Underway.{Underway}
use Rattle.pipes_inline.specs.Standing.{Start, GoesOn, Ends, CutShort, WroteAll, PutsAll, CanPutAll}
use Rattle.pipes_inline.specs.Standing.{StopsWithin, with_messages, items_from}
use Rattle.pipes_inline.specs.Ending.{IsOver}
use Rattle.pipes_inline.proofs.Putting.{with-same_all, with-other_all}
use Rattle.pipes_inline.proofs.Places.{same-or}
use Rattle.pipes_inline.proofs.Answering.{over-answers, some-of}
use Rattle.pipes_inline.proofs.Turning.{schema-at, top-grows, parts-taken}

-- no source has given all yet
pub ends-start : (start : Start) (lefts : List (Option (List ℕ))) (faults : List ℕ)
    (now : Option (List ℕ)) (underway : Underway) (g : GoesOn start lefts faults now underway)
    → Ends start 0 now g.taken underway
ends-start start lefts faults now underway g = record {
  typed = g.typed;
  few = g.few;
  count = g.count;
  sent = g.sent;
  done = g.done;
  given = λ k l s. absurd (omega (arith, l));
  lefts = lefts;
  faults = faults;
  each = λ k _ inside. g.each k inside;
  works = g.works;
  kept = g.kept;
}

module _ (start : Start) (place : ℕ) (now : Option (List ℕ)) (taken : ℕ → List Item)
    (old : Underway) (e : Ends start place now taken old)
    (l : place < length start.query.sources) (m : Intake)
    (read : m ≡ get_or old.intakes.items place m) where
  abbrev Source : SourceDecl
  Source = get_or start.query.sources place (some-of start.query.sources place l)

  pub stands-here : IntakeStands Source (get_or start.lefts place None) (get_or e.lefts place None)
      (get_or start.faults place 0) (get_or e.faults place 0) m (taken place) (e.sent place)
  stands-here = subst (λ (x : Intake). IntakeStands Source (get_or start.lefts place None)
      (get_or e.lefts place None) (get_or start.faults place 0) (get_or e.faults place 0) x
      (taken place) (e.sent place)) (sym read)
      (e.each place (omega arith) l (some-of start.query.sources place l) m)

  pub some-stands : StandsForSome (get_or e.lefts place None) (get_or e.faults place 0) m
  some-stands = record {
    s = Source;
    first = get_or start.lefts place None;
    before = get_or start.faults place 0;
    taken = taken place;
    list = e.sent place;
    stands = stands-here;
  }

  pub can-put_last : (ms : List Message) → MayPassAll Source.schema
      (run start_of_list (e.sent place)) ms → CanPutAll old.works place ms
  can-put_last ms may = record {
    schemas = schemas_of start.query;
    plan = start.query.plan;
    by_source = e.sent;
    got = e.done ++ old.top.items;
    stands = e.works;
    may = subst (λ (ks : List Kind). MayPassAll ks (run start_of_list (e.sent place)) ms)
        (sym (schema-at start.query place (some-of start.query.sources place l) l)) may;
  }

  pub finishes-here : (found shown : Option Step) → found ≡ shown
      → ((s : SourceDecl) (first left : Option (List ℕ)) (before count : ℕ) (xs : List Item)
      (list : List Message) → IntakeStands s first left before count m xs list
      → Finishes s xs list found)
      → Finishes Source (taken place) (e.sent place) shown
  finishes-here found shown is f =
      subst (λ (x : Option Step). Finishes Source (taken place) (e.sent place) x) is
      (f Source (get_or start.lefts place None) (get_or e.lefts place None)
      (get_or start.faults place 0) (get_or e.faults place 0) (taken place) (e.sent place)
      stands-here)

  module _ (intake : Intake) (new : Underway)
      (intakes-are : new.intakes.items ≡ set old.intakes.items place intake)
      (results-are : new.results ≡ old.results) where
    -- the source has given all, and what it gave was put
    finished : (ms : List Message) → HasGiven Source (taken place) (e.sent place ++ ms)
        → PutsAll old.works new.works place ms old.top.items new.top.items
        → Ends start (place + 1) now taken new
    finished ms given puts = record {
      typed = e.typed;
      few = e.few;
      count = ap length intakes-are ∙ length-set old.intakes.items place intake ∙ e.count;
      sent = with_messages e.sent place ms;
      done = e.done;
      given = λ k below s. elim (same-or k place) [
        | inl same ↦ subst (λ (j : ℕ). HasGiven (get_or start.query.sources j s) (taken j)
            (with_messages e.sent place ms j)) (sym same)
            (rw (with-same_all e.sent place ms)
            (subst (λ (d : SourceDecl). HasGiven d (taken place) (e.sent place ++ ms))
            (get-any start.query.sources place (some-of start.query.sources place l) s l) given))
        | inr other ↦ rw (with-other_all e.sent place ms k other)
            (e.given k (omega (arith, below, other)) s)
      ];
      lefts = e.lefts;
      faults = e.faults;
      each = λ k above inside s d.
          let other : k ≡ place → ⊥ = λ same. omega (arith, above, same) in
          rw (
            intakes-are,
            get_or-set_other old.intakes.items place k intake d other,
            with-other_all e.sent place ms k other,
          )
          (e.each k (omega (arith, above)) inside s d);
      works = subst (λ (l : List Message). WorksStand new.works (schemas_of start.query)
          start.query.plan (with_messages e.sent place ms) l)
          (top-grows e.done old.top.items puts.more new.top.items puts.appended)
          (puts.stands (schemas_of start.query) start.query.plan e.sent
          (e.done ++ old.top.items) e.works);
      kept = subst (λ (r : Results). Keeps start.written now r (elements e.done))
          (sym results-are) e.kept;
    }

    pub finish-gave : (step : Step) → Finishes Source (taken place) (e.sent place) (Some step)
        → PutsAll old.works new.works place (messages_of step) old.top.items new.top.items
        → Ends start (place + 1) now taken new
    finish-gave step f puts = finished (messages_of step) f.0 puts

    pub finish-none : Finishes Source (taken place) (e.sent place) None
        → PutsAll old.works new.works place [] old.top.items new.top.items
        → Ends start (place + 1) now taken new
    finish-none f puts = finished []
        (subst (λ (l : List Message). HasGiven Source (taken place) l)
        (sym (append-nil (e.sent place))) f) puts

-- all came to the top
pub over-is : (start : Start) (now : Option (List ℕ)) (taken : ℕ → List Item) (old new : Underway)
    (e : Ends start (length start.query.sources) now taken old)
    → WorksOff old.works new.works old.top.items new.top.items → new.results ≡ old.results
    → ((sent : Lists) (got : List Message)
    → WorksStand new.works (schemas_of start.query) start.query.plan sent got
    → AnswersSources (schemas_of start.query) start.query.plan sent got)
    → ((sent : Lists) (got : List Message)
    → WorksStand new.works (schemas_of start.query) start.query.plan sent got
    → KeepsUpWithSources (schemas_of start.query) start.query.plan sent got)
    → IsOver start now taken new
over-is start now taken old new e off results-are answers keeps =
    let stands : WorksStand new.works (schemas_of start.query) start.query.plan e.sent
    (e.done ++ new.top.items) =
    subst (λ (l : List Message). WorksStand new.works (schemas_of start.query) start.query.plan
    e.sent l) (top-grows e.done old.top.items off.more new.top.items off.appended)
    (off.stands (schemas_of start.query) start.query.plan e.sent (e.done ++ old.top.items)
    e.works) in
    record {
      done = e.done;
      kept = subst (λ (r : Results). Keeps start.written now r (elements e.done))
          (sym results-are) e.kept;
      answers = over-answers start.query taken e.sent (e.done ++ new.top.items) e.typed e.given
          (answers e.sent (e.done ++ new.top.items) stands)
          (keeps e.sent (e.done ++ new.top.items) stands);
    }

-- ---- what is written of it

module _ (start : Start) (lefts : List (Option (List ℕ))) (faults : List ℕ)
    (before now : Option (List ℕ)) (first old : Underway)
    (g : GoesOn start lefts faults before first)
    (o : IsOver start before g.taken old) (form : Form) where
  abbrev Items : List (List Item)
  Items = items_from start.query.sources 0 g.taken

  all-answers : AreAnswers start.query Items (elements o.done ++ elements old.top.items)
  all-answers = subst (λ (l : List Elem). AreAnswers start.query Items l)
      (elements-append o.done old.top.items) o.answers

  -- it was stopped among what came to the top
  pub cut-within : StopsWithin start.written now form (elements o.done) (elements old.top.items)
      → CutShort form start now
  cut-within stop =
      let some = elements o.done ++ stop.0 in
      let all : elements o.done ++ elements old.top.items ≡ some ++ stop.1 =
      ap (λ (l : List Elem). elements o.done ++ l) stop.2
      ∙ sym (append_assoc (elements o.done) stop.0 stop.1) in
      record {
        taken = g.taken;
        parts = parts-taken start lefts faults before first g;
        bytes = stop.3.0;
        appended = stop.3.1;
        writes = early-writes form start.query Items some stop.3.0
            (results-prefix start.query some stop.1
            (subst (λ (l : List Elem). AreResults start.query l) all all-answers.results))
            stop.3.2;
      }

  -- it was stopped at the end
  pub cut-last : (last : Entry) → EndsRun last
      → WritesPrefixOf start.written now form (elements o.done ++ elements old.top.items) last
      → CutShort form start now
  cut-last last is stop = record {
    taken = g.taken;
    parts = parts-taken start lefts faults before first g;
    bytes = stop.0;
    appended = stop.1;
    writes = prefix-writes form start.query Items
        (elements o.done ++ elements old.top.items) last stop.0 is all-answers stop.2;
  }

  -- all was written
  pub wrote-all : (last : Entry) → EndsRun last
      → WritesWhole start.written now form (elements o.done ++ elements old.top.items) last
      → WroteAll form start g.taken now last
  wrote-all last is all = record {
    bytes = all.0;
    appended = all.1;
    writes = whole-writes form start.query Items
        (elements o.done ++ elements old.top.items) last all.0 is all-answers all.2;
  }
