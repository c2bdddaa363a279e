-- A query of which nothing has come.
use Rattle.std.proofs.Common.{◌≡◌, ◌≤◌, List, [], length, refl, sym, ap, ◌∙◌, arith}
use Rattle.std.proofs.lemmas.List.{length-map}
use Rattle.std.proofs.lemmas.List.Elements.{All-nil}
use Rattle.pipes_tuple.specs.declared.value.Kind.{Kind}
use Rattle.pipes_tuple.proofs.Bags.{SameBag-refl}
use Rattle.pipes_stream.specs.declared.Elem.{Elem}
use Rattle.pipes_stream.specs.Lawful.{Lists, no_messages, IsCovered}
use Rattle.pipes_plan.specs.declared.plan.Plan.{Plan}
use Rattle.pipes_works.specs.Standing.{source_count}
use Rattle.pipes_standing.specs.declared.standing.Standing.{Standing}
use Rattle.pipes_standing.specs.Calms.{Rows, Calm, answer_of}
use Rattle.pipes_moving.proofs.Beginning.{count-is}
use Rattle.pipes_live.specs.declared.source.Source.{Source}
use Rattle.pipes_live.specs.Lives.{AreSources, ServesAlone}

pub sources-counted : (schemas : List (List Kind)) (by_source : Lists) (sources : List Source)
    → AreSources schemas by_source sources → length sources ≡ length schemas
sources-counted schemas by_source sources are =
    sym (length-map sources (λ (i : Source). i.schema))
    ∙ ap (λ (l : List (List Kind)). length l) are.schemas_are

pub sources-count : (s : Standing) (schemas : List (List Kind)) (plan : Plan)
    (sources : List Source) → AreSources schemas no_messages sources
    → ((rows : Rows) → Calm s schemas plan rows 0 no_messages [] [])
    → source_count s.works ≡ length sources
sources-count s schemas plan sources are calm =
    count-is s.works schemas plan no_messages [] (calm (λ t. [])).works
    ∙ sym (sources-counted schemas no_messages sources are)

pub serves-new : (s : Standing) (schemas : List (List Kind)) (plan : Plan) (rows : Rows)
    → Calm s schemas plan rows 0 no_messages [] []
    → ServesAlone s schemas plan plan rows 0 no_messages []
serves-new s schemas plan rows calm = record {
  base = 0;
  given = no_messages;
  got = [];
  calm = calm;
  based = omega arith;
  closes = omega arith;
  each = λ k reads. record {
    so_far = record {
      valid = tt;
      beat_is = refl;
      ended_is = refl;
      same = λ t from. SameBag-refl [];
    };
    parts = All-nil (IsCovered []);
  };
  alike = record {
    kinds = refl;
    answers = λ t within. SameBag-refl (answer_of plan rows t);
  };
  ends = λ instant all. All-nil (λ (e : Elem). e.span.end ≤ instant);
}
