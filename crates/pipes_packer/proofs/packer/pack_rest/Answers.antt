use Rattle.pipes_packer.proofs.Packs.{rest-unless}
use Rattle.pipes_packer.proofs.packer.pack_rest.Goals as goal

pub returns-clause-packs : goal.returns-clause-packs
returns-clause-packs c =
    rest-unless c.put_all.result c.args.cutter.now c.put_all.new.cutter c.args.arrivals.now
    c.finish.new.self c.clear.new.self.items c.finish.new.out.items c.args.out.now.items
    c.put_all.new.out.items c.clear.ensures.items c.in_ok-finish.ensures.finishes
    c.put_all.ensures.cuts
