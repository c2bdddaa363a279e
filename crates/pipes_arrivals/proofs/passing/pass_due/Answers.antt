use Rattle.std.proofs.Common.{arith, ◌∙◌}
use Rattle.pipes_arrivals.proofs.Rising.{same-stamp}
use Rattle.pipes_arrivals.proofs.Through.{Leaving, leaving-more, left-all, left-over, rises-next}
use Rattle.pipes_arrivals.proofs.passing.pass_due.Goals as goal

pub due-preserved : goal.due-preserved
due-preserved c =
    let i = c.due.invariant in
    let due = c.in-Some.ensures.due in
    let took = c.in_ok-pass_item.ensures in
    let left : Leaving c.args.floor c.args.waiting.now c.take_due.new.self c.args.window.now
    c.pass_item.new.window c.args.out.now.items c.pass_item.new.out.items =
    leaving-more c.args.floor c.args.waiting.now c.due.waiting c.take_due.new.self c.in-Some.item
    c.args.window.now c.due.window c.pass_item.new.window c.args.out.now.items c.due.out.items
    c.pass_item.new.out.items i.kind i.left due.0 due.1 took.passes in record {
      rises = rises-next c.due.window.last c.pass_item.new.window.last c.due.waiting
          c.take_due.new.self c.in-Some.item i.rises due.0 took.last;
      kind = c.pass_item.ensures.kind ∙ i.kind;
      ended = c.pass_item.ensures.ended ∙ i.ended;
      longer = (left.passes.sent.0, left.passes.sent.1);
      last = omega (arith, took.last, due.1, same-stamp c.in-Some.item);
      left = left;
    }

pub returns-clause-passes : goal.returns-clause-passes
returns-clause-passes c =
    left-all c.args.floor c.args.waiting.now c.due.waiting c.args.window.now c.due.window
    c.args.out.now.items c.due.out.items c.due.invariant.left c.in_default.ensures.none.1

pub returns-clause-left : goal.returns-clause-left
returns-clause-left c =
    c.in_default.ensures.none.0
    ∙ left-over c.args.floor c.args.waiting.now c.due.waiting c.args.window.now c.due.window
    c.args.out.now.items c.due.out.items c.due.invariant.left c.in_default.ensures.none.1
