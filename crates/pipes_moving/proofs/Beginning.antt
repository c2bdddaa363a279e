-- A plan begins to take the place of another.
use Rattle.std.proofs.Common.{◌≡◌, ◌↔◌, IsTrue, ℕ, ◌≤◌, ◌<◌, max, Bool, true, false, List, []}
use Rattle.std.proofs.Common.{◌∷◌, ◌++◌}
use Rattle.std.proofs.Common.{refl, sym, ◌∙◌, ap, arith, append-nil, length}
use Rattle.std.specs.List.{All}
use Rattle.std.proofs.lemmas.List.{length-map}
use Rattle.std.proofs.lemmas.List.Elements.{All-nil}
use Rattle.pipes_time.specs.Interval.{closed}
use Rattle.pipes_tuple.specs.declared.value.Kind.{Kind}
use Rattle.pipes_stream.specs.declared.Elem.{Elem}
use Rattle.pipes_stream.specs.declared.message.Message.{Message}
use Rattle.pipes_stream.specs.declared.message.Message.TheVariants as message
use Rattle.pipes_stream.specs.Lists.{run, start_of_list, beat, HasEnded}
use Rattle.pipes_stream.specs.Lawful.{Lists, no_messages}
use Rattle.pipes_coalesce.specs.Stands.{CoalesceStands}
use Rattle.pipes_seam.specs.Seams.{opening_of, end_of}
use Rattle.pipes_plan.specs.declared.plan.Plan.{Plan}
use Rattle.pipes_plan.specs.PlanKinds.{IsTyped}
use Rattle.pipes_output.specs.declared.entry.Entry.{Entry}
use Rattle.pipes_semantics.specs.Written.{results}
use Rattle.pipes_works.specs.declared.input.Input.{Input}
use Rattle.pipes_works.specs.declared.works.Works.{Works}
use Rattle.pipes_works.specs.Standing.{WorksStand, source_count}
use Rattle.pipes_written.specs.declared.output.Output.{Output}
use Rattle.pipes_standing.specs.declared.standing.Standing.{Standing}
use Rattle.pipes_standing.specs.Calms.{Rows, AnswerAlike, AllEndBy, Calm}
use Rattle.pipes_moving.specs.declared.moving.Moving.{Moving}
use Rattle.pipes_moving.specs.declared.next.Next.{Next}
use Rattle.pipes_moving.specs.Moves.{IsMoving, split_of, first_of}
use Rattle.pipes_moving.specs.Steps.{Begins}

same-ended : (a b : Bool) → IsTrue a ↔ (b ≡ true) → a ≡ b
same-ended true true e = refl
same-ended true false e = let not : false ≡ true = e.0 refl in cc
same-ended false true e = let not : false ≡ true = e.1 refl in cc
same-ended false false e = refl

module _ (standing : Standing) (next : Next) (split : ℕ) (m : Moving) (ended : Bool)
    (old_is : m.old_works ≡ standing.works) (fresh_is : m.fresh_works ≡ next.works)
    (output_is : m.output ≡ standing.output) (none : m.fresh_sent.items ≡ [])
    (ends : (schemas : List (List Kind)) (plan : Plan) (by_source : Lists) (got : List Message)
    → WorksStand standing.works schemas plan by_source got → IsTrue ended ↔ HasEnded got)
    (opened : m.old_sent.items ≡ message.Beat standing.output.beat ∷ end_of ended)
    (first_is : m.seam.first ≡ standing.output.beat) (split_is : m.seam.merge.split ≡ split)
    (stands : CoalesceStands m.seam.merge [] [] []) where
  begins-moving : (schemas : List (List Kind)) (before after : Plan) (rows : Rows) (base : ℕ)
      (below : Lists) (got : List Message) (entries : List Entry)
      → Calm standing schemas before rows base below got entries
      → standing.sent.items ≡ [] → AllEndBy schemas before split below → base ≤ split
      → split ≤ closed → All (λ e. e.span.end < split) (results entries) → IsTyped after schemas
      → WorksStand next.works schemas after no_messages [] → AnswerAlike schemas before after rows
      → IsMoving m schemas before after rows base below no_messages entries
  begins-moving schemas before after rows base below got entries calm nothing low rises closes
      over typed works alike =
      let all : got ≡ calm.seen = calm.got_is
      ∙ ap (λ (l : List Message). calm.seen ++ l) nothing ∙ append-nil calm.seen in
      let beat_same : beat got ≡ standing.output.beat = ap beat all ∙ sym calm.beat_is in
      record {
        typed_old = calm.typed;
        typed_fresh = typed;
        alike = alike;
        old_got = got;
        fresh_got = [];
        old = rw old_is calm.works;
        fresh = rw fresh_is works;
        ends = rw split_is low;
        starts = λ source reads.
            All-nil (λ (e : Elem). max (split_of m) (first_of m) ≤ e.span.start);
        begun = got;
        earlier = entries;
        begun_is = beat_same ∙ sym first_is;
        shown = rw all calm.shown;
        based = omega (arith, first_is, calm.based);
        rises = omega (arith, split_is, rises);
        closes = omega (arith, split_is, closes);
        over_before = rw split_is over;
        since = [];
        old_got_is = sym (append-nil got);
        olds = [];
        news = [];
        sent = [];
        merge = stands;
        olds_are = opened
            ∙ ap (λ (b : Bool). message.Beat standing.output.beat ∷ end_of b)
            (same-ended ended (run start_of_list got).ended
            (ends schemas before below got calm.works))
            ∙ ap (λ (h : ℕ). message.Beat h ∷ end_of (run start_of_list got).ended)
            (sym beat_same)
            ∙ sym (append-nil (opening_of got));
        news_are = none;
        written = rw output_is calm.written;
        results_are = sym (append-nil (results entries));
        beat_is = rw output_is (omega (arith, first_is));
      }

  pub begins : Begins standing next split m
  begins = record {
    split_is = split_is;
    first_is = first_is;
    beat = ap (λ (o : Output). o.beat) output_is;
    entries = rw output_is refl;
    moves = begins-moving;
  }

-- a plan at work has as many sources as there are schemas
pub count-is : (w : Works) (schemas : List (List Kind)) (plan : Plan) (given : Lists)
    (got : List Message) → WorksStand w schemas plan given got → source_count w ≡ length schemas
count-is w schemas plan given got s = sym (length-map w.inputs.items (λ (i : Input). i.schema))
    ∙ ap (λ (l : List (List Kind)). length l) s.schemas_are
