use Rattle.std.proofs.Common.{rules}
use Rattle.pipes_split.specs.Knowledge.{seat_knows}
use Rattle.pipes_packer.proofs.Cutting.{cuts-none, cuts-more, raised-more}
use Rattle.pipes_packer.proofs.packer.cut_last_first.Goals as goal

pub elems-init : goal.elems-init
elems-init c = record {
  seat = search rules;
  cuts = cuts-none (seat_knows c.args.cutter.now) c.args.elems.now.items c.args.out.now.items;
}

pub elems-preserved : goal.elems-preserved
elems-preserved c =
    let i = c.elems.invariant in
    let told = c.in_ok-cut_up.ensures in record {
      seat = search rules;
      cuts = cuts-more (seat_knows c.args.cutter.now) (seat_knows c.elems.cutter)
          (seat_knows c.cut_up.new.self) c.args.elems.now.items c.elems.elems.items
          c.pop.new.self.items c.in-Some.elem c.args.out.now.items c.elems.out.items
          c.cut_up.new.out.items i.cuts c.in-Some.ensures.items told.raises told.whole;
    }

pub returns-in_err-cut_up-clause-raises : goal.returns-in_err-cut_up-clause-raises
returns-in_err-cut_up-clause-raises c =
    raised-more (seat_knows c.args.cutter.now) (seat_knows c.elems.cutter)
    (seat_knows c.cut_up.new.self) c.args.elems.now.items c.elems.elems.items c.pop.new.self.items
    c.in-Some.elem c.args.out.now.items c.elems.out.items c.elems.invariant.cuts
    c.in-Some.ensures.items c.cut_up.ensures.raises
