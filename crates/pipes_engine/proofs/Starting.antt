-- A run of which nothing has come.
use Rattle.std.proofs.Common.{◌≡◌, ℕ, List, [], ◌∷◌, refl, sym, subst, ◌+◌}
use Rattle.std.proofs.Common.{◌∙◌, arith}
use Rattle.pipes_stream.specs.Lawful.{no_messages}
use Rattle.pipes_plan.specs.declared.plan.Plan.{Plan}
use Rattle.pipes_window.specs.declared.item.Item.{Item}
use Rattle.pipes_query.specs.declared.query.Query.{Query}
use Rattle.pipes_query.specs.declared.query.SourceDecl.{SourceDecl}
use Rattle.pipes_semantics.specs.Answer.{bags_at, schemas_of}
use Rattle.pipes_standing.specs.Calms.{Rows}
use Rattle.pipes_derivation.specs.declared.derivation.Derivation.{Derivation}
use Rattle.pipes_told.specs.Asks.{Ask}
use Rattle.pipes_told.specs.Told.{nothing_told}
use Rattle.pipes_replies.specs.declared.stage.Stage.TheVariants.{Calm}
use Rattle.pipes_replies.specs.Keeping.{KeepsPaced}
use Rattle.pipes_live.specs.Lives.{Serves}
use Rattle.pipes_course.specs.Given.{elements_from}
use Rattle.pipes_course.specs.Known.{last_end}
use Rattle.pipes_engine.specs.declared.serving.Serving.{Serving}
use Rattle.pipes_engine.specs.Runs.{IsRunning}

none-given : (sources : List SourceDecl) (number : ℕ)
    → last_end (elements_from number sources no_messages) ≡ 0
none-given [] number = refl
none-given (s ∷ ss) number = none-given ss (number + 1)

pub starts : (s : Serving) (query : Query) → s.schemas ≡ schemas_of query → s.plan ≡ query.plan
    → s.replies.stage ≡ Calm → s.end ≡ 0
    → ((rows : Rows)
    → Serves s.live (schemas_of query) query.plan query.plan [] rows no_messages [])
    → ((plan : Plan) (asks : List (Ask Derivation)) (inputs output : ℕ)
    → KeepsPaced s.replies (nothing_told plan asks) inputs output)
    → (items : List (List Item)) (asks : List (Ask Derivation))
    → IsRunning s query items asks asks no_messages []
starts s query schemas plan calm end serves keeps items asks = record {
  schemas_are = schemas;
  later_are = refl;
  plan_is = sym plan;
  serves = subst (λ (p : Plan). Serves s.live (schemas_of query) query.plan p []
      (bags_at query.sources items) no_messages []) (sym plan)
      (serves (bags_at query.sources items));
  inputs = 0;
  output = 0;
  inputs_low = omega arith;
  output_low = omega arith;
  keeps = (keeps query.plan asks 0 0).keeps;
  moving = λ goes. absurd (goes calm);
  follow = tt;
  going = tt;
  coalesced = λ number split there. absurd (let low = there.1 in omega (arith, low));
  end_is = none-given query.sources 0 ∙ sym end;
}
