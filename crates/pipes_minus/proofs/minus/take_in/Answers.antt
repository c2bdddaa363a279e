use Rattle.std.proofs.Common.{arith}
use Rattle.pipes_timeline.proofs.Calling.{from-ok}
use Rattle.pipes_minus.proofs.Taking.{takes_in}
use Rattle.pipes_minus.proofs.minus.take_in.Goals as goal

pub returns : goal.returns
returns c =
    from-ok c.trim.result
    (takes_in c.args.line.now c.pass.new.self c.arrive.new.self c.trim.new.self c.args.next
    c.start-start.result c.start-start.ensures.value
    (let a = c.end-end.ensures.value in let b = c.end-end.ensures.above_start in
    let d = c.end-end.ensures.bound in (omega (arith, a, b), omega (arith, a, d)))
    c.in_ok-pass.ensures.passes c.in_ok-pass.ensures.now c.in_ok-pass.ensures.over
    c.in_ok-arrive.ensures.arrives) c.trim.ensures.trims
