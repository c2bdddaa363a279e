use Rattle.std.proofs.Common.{[], refl}
use Rattle.pipes_stream.specs.declared.message.Message.TheVariants as message
use Rattle.pipes_pair.specs.Meeting.{joined_from}
use Rattle.pipes_pair.proofs.Keeping.{keeps_none}
use Rattle.pipes_pair.proofs.side.keep_any.Goals as goal

pub returns-in-Beat-clause-keeps : goal.returns-in-Beat-clause-keeps
returns-in-Beat-clause-keeps g c =
    rw c.in-Beat.is
    (keeps_none (joined_from [] c.args.condition.now c.args.is_left) _
    c.args.own.now c.args.other.now c.args.hold.now refl)

pub returns-in-End-clause-keeps : goal.returns-in-End-clause-keeps
returns-in-End-clause-keeps g c =
    rw c.in-End.is
    (keeps_none (joined_from [] c.args.condition.now c.args.is_left) message.End
    c.args.own.now c.args.other.now c.args.hold.now refl)
