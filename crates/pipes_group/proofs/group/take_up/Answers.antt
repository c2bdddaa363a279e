use Rattle.pipes_timeline.proofs.Calling.{from-ok}
use Rattle.pipes_group.proofs.GroupSteps.{takes_up_arrived}
use Rattle.pipes_group.proofs.group.take_up.Goals as goal

pub returns-in_ok-arrive-in-Elem-clause-takes_up : goal.returns-in_ok-arrive-in-Elem-clause-takes_up
returns-in_ok-arrive-in-Elem-clause-takes_up c =
    from-ok c.trim.result
    (takes_up_arrived c.args.line.now c.arrive.new.self c.trim.new.self c.args.message
    c.in-Elem.elem c.in-Elem.is c.in_ok-arrive-in-Elem.ensures.arrives c.arrive.ensures.rule)
    c.trim.ensures.trims
