use Rattle.std.proofs.Common.{[]}
use Rattle.pipes_stream.specs.Lawful.{no_messages}
use Rattle.pipes_moving.proofs.Beginning.{count-is}
use Rattle.pipes_moving.proofs.next.Next.new.Goals as goal

pub returns-clause-count : goal.returns-clause-count
returns-clause-count c = count-is c.in_ok-works.works c.args.schemas.now c.args.plan.now no_messages
    [] c.in_ok-works.ensures.stands
