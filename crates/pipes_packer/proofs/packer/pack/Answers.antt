use Rattle.pipes_packer.proofs.Packs.{packs-unless}
use Rattle.pipes_packer.proofs.packer.pack.Goals as goal

pub returns-clause-packs : goal.returns-clause-packs
returns-clause-packs c =
    packs-unless c.put_all.result c.args.cutter.now c.put_all.new.cutter c.args.arrivals.now
    c.take.new.self c.args.arrival c.clear.new.self.items c.take.new.out.items
    c.beat_now-beat.result c.args.out.now.items c.put_all.new.out.items c.clear.ensures.items
    c.in_ok-take.ensures.takes c.beat_now-beat.ensures.value c.put_all.ensures.cuts
