use Rattle.std.proofs.Common.{◌∙◌, refl, ap, set}
use Rattle.std.proofs.lemmas.List.{set-get_or}
use Rattle.pipes_node.specs.declared.port.Port.{Port}
use Rattle.pipes_node.proofs.NodeSteps.{node-skips, node-passes, node-moves, port-took}
use Rattle.pipes_node.proofs.Stood.{node-stopped, on_err-any}
use Rattle.pipes_node.proofs.node.Node.take_one.Goals as goal

pub returns-in_ok-work-clause-owes : goal.returns-in_ok-work-clause-owes
returns-in_ok-work-clause-owes c =
    node-passes c.args.self.now c.work.new.self c.args.port c.take.new.self c.in-Some.taken.0
    c.requires.in_range c.work.ensures.works.task (ap (λ v. v.items) c.work.ensures.works.ports)
    c.work.ensures.works.outlet c.work.ensures.works.pending
    (port-took c.args.self.now.ports.items c.args.port c.index_mut.result.now c.take.new.self
    c.in-Some.taken.0 _ _ c.requires.in_range c.index_mut.ensures.value c.if-passed.true
    c.in-Some.ensures.took)
    c.in_ok-work.ensures.emits

pub returns-else-passed-clause-owes : goal.returns-else-passed-clause-owes
returns-else-passed-clause-owes c =
    node-skips c.args.self.now _ c.args.port c.take.new.self c.in-Some.taken.0 c.requires.in_range
    refl refl refl refl refl
    (port-took c.args.self.now.ports.items c.args.port c.index_mut.result.now c.take.new.self
    c.in-Some.taken.0 _ _ c.requires.in_range c.index_mut.ensures.value c.if-passed.false
    c.in-Some.ensures.took)

pub returns-in-None-clause-same : goal.returns-in-None-clause-same
returns-in-None-clause-same c =
    ap (λ (p : Port). set c.args.self.now.ports.items c.args.port p) (c.in-None.ensures.none
    ∙ c.index_mut.ensures.value) ∙ set-get_or c.args.self.now.ports.items c.args.port
    c.index_mut.result.now

pub returns-in_err-work-clause-stood : goal.returns-in_err-work-clause-stood
returns-in_err-work-clause-stood c =
    on_err-any c.from_residual.result _
    (node-stopped c.args.self.now c.work.new.self c.args.port c.take.new.self c.in-Some.taken.0
    c.requires.in_range c.work.ensures.works.task (ap (λ v. v.items) c.work.ensures.works.ports)
    c.work.ensures.works.outlet
    (port-took c.args.self.now.ports.items c.args.port c.index_mut.result.now c.take.new.self
    c.in-Some.taken.0 _ _ c.requires.in_range c.index_mut.ensures.value c.if-passed.true
    c.in-Some.ensures.took))

pub returns-in_ok-work-clause-moves : goal.returns-in_ok-work-clause-moves
returns-in_ok-work-clause-moves c =
    node-moves c.args.self.now c.work.new.self c.args.port c.take.new.self c.in-Some.taken.0 _
    c.requires.in_range c.work.ensures.works.number c.work.ensures.works.depth
    c.work.ensures.works.task (ap (λ v. v.items) c.work.ensures.works.ports)
    c.work.ensures.works.outlet
    (port-took c.args.self.now.ports.items c.args.port c.index_mut.result.now c.take.new.self
    c.in-Some.taken.0 _ _ c.requires.in_range c.index_mut.ensures.value c.if-passed.true
    c.in-Some.ensures.took)
