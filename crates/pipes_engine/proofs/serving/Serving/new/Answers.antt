use Rattle.std.proofs.Common.{refl, subst, [], List}
use Rattle.pipes_tuple.specs.declared.value.Kind.{Kind}
use Rattle.pipes_stream.specs.Lawful.{no_messages}
use Rattle.pipes_live.specs.Lives.{Serves}
use Rattle.pipes_engine.proofs.Starting.{starts}
use Rattle.pipes_engine.proofs.serving.Serving.new.Goals as goal

pub returns-clause-runs : goal.returns-clause-runs
returns-clause-runs c = λ items asks.
    starts _ c.args.query.now c.in_ok-schemas.ensures c.in_ok-plan.ensures c.new-2.ensures.calm refl
    (λ rows. subst (λ (ss : List (List Kind)). Serves c.in_ok-live.live ss c.args.query.now.plan
    c.args.query.now.plan [] rows no_messages []) c.in_ok-schemas.ensures
    (c.in_ok-live.ensures.serves rows)) c.new-2.ensures.keeps items asks
