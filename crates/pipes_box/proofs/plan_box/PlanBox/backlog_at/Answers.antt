use Rattle.std.proofs.Common.{◌≡◌, ◌≤◌, ◌<◌, ◌∙◌, ℕ, List, length, get_or, ap, sym, subst}
use Rattle.pipes_node.specs.declared.node.Node.{Node}
use Rattle.pipes_box.specs.Backlog.{known_backlog}
use Rattle.pipes_box.proofs.WorkedOff.{known-is, looked-backlog}
use Rattle.pipes_box.proofs.plan_box.PlanBox.backlog_at.Goals as goal

pub number_at-requires : goal.number_at-requires
number_at-requires c = record {
  in_range = c.requires.in_range;
  few = subst (λ (ns : List Node). (k : ℕ) (d : Node) → k < length ns
      → length (get_or ns k d).ports.items ≤ 2) (sym c.as_slice.ensures.value)
      (λ k d h. (c.settle_links.ensures.sound.linked.counted k d h).few);
}

pub returns-clause-stands : goal.returns-clause-stands
returns-clause-stands c = λ schemas plan given got b.
    c.settle_links.ensures.stands schemas plan given got
    (c.settle_top.ensures.stands schemas plan given got b)

pub returns-clause-answer : goal.returns-clause-answer
returns-clause-answer c =
    c.number_at.ensures
    ∙ ap (λ (ns : List Node). known_backlog ns c.args.place) c.as_slice.ensures.value
    ∙ known-is c.settle_top.new.self.nodes.items c.settle_links.new.self.nodes.items c.args.place
    c.settle_links.ensures.links

pub returns-clause-same : goal.returns-clause-same
returns-clause-same c = λ j small.
    looked-backlog c.settle_top.new.self.nodes.items c.settle_links.new.self.nodes.items
    c.settle_links.ensures.links.count c.settle_links.ensures.links.looks
    c.settle_top.ensures.sound.linked c.settle_links.ensures.sound.linked j small
    ∙ looked-backlog c.args.self.now.nodes.items c.settle_top.new.self.nodes.items
    c.settle_top.ensures.looks.count c.settle_top.ensures.looks.looks
    c.requires.sound.linked c.settle_top.ensures.sound.linked j small
