use Rattle.std.proofs.Common.{refl, sym, append-nil, []}
use Rattle.pipes_group.proofs.Moving.{moves-none, turn}
use Rattle.pipes_group.proofs.coverage.Coverage.catch_up.Goals as goal

pub loop-due-init : goal.loop-due-init
loop-due-init c = record {
  moves = moves-none c.args.self.now c.args.to c.args.out.now.items;
  grows = ([], sym (append-nil c.args.out.now.items));
}

pub loop-due-preserved : goal.loop-due-preserved
loop-due-preserved c =
    let i = c.loop-due.invariant in
    let d = c.in-Some.ensures in
    let r = c.in_ok-renew.ensures.renews in
    let m = turn c.args.self.now c.loop-due.self _ c.renew.new.self c.in-Some.due c.args.to
    c.args.out.now.items c.loop-due.out.items c.renew.new.out.items
    i.moves d.0 refl d.1 d.2 r in
    record {
      moves = m;
      grows = (m.more, m.appended);
    }
