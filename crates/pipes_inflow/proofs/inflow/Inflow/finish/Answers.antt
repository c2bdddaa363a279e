use Rattle.std.proofs.Common.{Err, ap, refl, subst, sym}
use Rattle.pipes_inflow.specs.declared.inflow.Inflow.{Inflow}
use Rattle.pipes_inflow.specs.Inflows.{InflowStands}
use Rattle.pipes_inflow.proofs.Turning.{finish-done, finish-lacks}
use Rattle.pipes_inflow.proofs.inflow.Inflow.finish.Goals as goal

pub returns-in-Ok-clause-finished : goal.returns-in-Ok-clause-finished
returns-in-Ok-clause-finished c not =
    let h = c.requires.2 in
    let e = c.in-Ok.ensures in
    finish-done h.gone h.taken c.args.self.now.feeder c.finish.new.self
    c.args.self.now.feeder.finished refl h.stands.feeds (λ un. e.ends un (λ is. absurd (cc))) e.again
    e.packer

pub returns-in-Err-Full-clause-finished : goal.returns-in-Err-Full-clause-finished
returns-in-Err-Full-clause-finished c not =
    let h = c.requires.2 in
    let e = c.in-Err-Full.ensures in
    finish-done h.gone h.taken c.args.self.now.feeder c.finish.new.self
    c.args.self.now.feeder.finished refl h.stands.feeds (λ un. e.ends un (λ is. absurd (cc))) e.again
    e.packer

pub returns-in-Err-Memory-clause-stands : goal.returns-in-Err-Memory-clause-stands
returns-in-Err-Memory-clause-stands c = λ s first left before now gone taken h.
    let e = c.in-Err-Memory.ensures in
    let m = e.memory (ap Err c.in-Err-Memory.field-0-is) in
    subst (λ (f : Inflow). InflowStands s first left before now gone taken f)
    (sym c.fail.ensures)
    (finish-lacks s first left before now gone taken c.args.self.now _ refl refl refl m.0
    c.args.self.now.feeder.finished refl e.packer m.1 h)
