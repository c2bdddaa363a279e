use Rattle.std.proofs.Common.{◌∙◌}
use Rattle.pipes_arrivals.proofs.Through.{Moving, moving-more, rises-next}
use Rattle.pipes_arrivals.proofs.passing.pass_rest.Goals as goal

pub rest-preserved : goal.rest-preserved
rest-preserved c =
    let i = c.rest.invariant in
    let first = c.in-Some.ensures.first in
    let took = c.in_ok-pass_item.ensures in
    let left : Moving c.args.waiting.now c.take.new.self c.args.window.now
    c.pass_item.new.window c.args.out.now.items c.pass_item.new.out.items =
    moving-more c.args.waiting.now c.rest.waiting c.take.new.self c.in-Some.item c.args.window.now
    c.rest.window c.pass_item.new.window c.args.out.now.items c.rest.out.items
    c.pass_item.new.out.items i.kind i.left first took.passes in record {
      rises = rises-next c.rest.window.last c.pass_item.new.window.last c.rest.waiting
          c.take.new.self c.in-Some.item i.rises first took.last;
      kind = c.pass_item.ensures.kind ∙ i.kind;
      ended = c.pass_item.ensures.ended ∙ i.ended;
      longer = (left.passes.sent.0, left.passes.sent.1);
      left = left;
    }
