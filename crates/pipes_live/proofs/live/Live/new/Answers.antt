use Rattle.pipes_stream.specs.Lawful.{no_messages}
use Rattle.pipes_live.proofs.Starting.{sources-count, sources-counted, serves-new}
use Rattle.pipes_live.proofs.live.Live.new.Goals as goal

pub returns-clause-whole : goal.returns-clause-whole
returns-clause-whole c = (
  c.in_ok-standing.ensures.whole,
  sources-count c.in_ok-standing.standing c.args.schemas.now c.args.plan.now
      c.in_ok-sources.sources.items c.in_ok-sources.ensures c.in_ok-standing.ensures.calm,
)

pub returns-clause-serves : goal.returns-clause-serves
returns-clause-serves c = λ rows. record {
  at_work = serves-new c.in_ok-standing.standing c.args.schemas.now c.args.plan.now rows
      (c.in_ok-standing.ensures.calm rows);
  sources = c.in_ok-sources.ensures;
}

pub returns-clause-count : goal.returns-clause-count
returns-clause-count c = sources-counted c.args.schemas.now no_messages
    c.in_ok-sources.sources.items c.in_ok-sources.ensures
