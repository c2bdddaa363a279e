use Rattle.std.proofs.Common.{◌≡◌, ◌-◌, ◌^◌, ◌<◌, ◌≤◌, ◌∙◌, ℕ, min, List, length, get_or, ap, sym}
use Rattle.std.proofs.Common.{subst}
use Rattle.std.specs.List.{sum_by}
use Rattle.pipes_node.specs.declared.node.Node.{Node}
use Rattle.pipes_box.specs.declared.plan_box.PlanBox.{PlanBox}
use Rattle.pipes_box.specs.Backlog.{backlog_of, lowered_first, FallsAt}
use Rattle.pipes_box.proofs.Moving.{round-moved, round-still, round-empty}
use Rattle.pipes_box.proofs.Lowering.{round-falls}
use Rattle.pipes_box.proofs.plan_box.PlanBox.advance.Goals as goal

pub returns-clause-stands : goal.returns-clause-stands
returns-clause-stands g c = λ schemas plan given got b.
    c.settle_top-2.ensures.stands schemas plan given got (c.turn_nodes.ensures.stands
    schemas plan given got (c.settle_links.ensures.stands schemas plan given
    got (c.settle_top.ensures.stands schemas plan given got b)))

pub returns-clause-moved : goal.returns-clause-moved
returns-clause-moved g c =
    round-moved c.args.self.now c.settle_top.new.self c.settle_links.new.self c.turn_nodes.new.self
    c.settle_top-2.new.self
    c.settle_top.ensures.looks c.settle_links.ensures.links (c.turn_nodes.ensures.turned
    c.if-self-2.false) c.settle_top-2.ensures.looks c.total_moved-moved.result
    (subst (λ (ns : List Node). c.total_moved-moved.result ≡ min (sum_by (λ n. n.moved) ns)
    (2 ^ 64 - 1)) c.as_slice.ensures.value c.total_moved-moved.ensures)

pub returns-clause-still : goal.returns-clause-still
returns-clause-still g c = λ none empty.
    round-still c.args.self.now c.settle_top.new.self c.settle_links.new.self c.turn_nodes.new.self
    c.settle_top-2.new.self
    c.settle_top.ensures.looks c.settle_links.ensures.links (c.turn_nodes.ensures.turned
    c.if-self-2.false) c.settle_top-2.ensures.looks c.total_moved-moved.result
    (subst (λ (ns : List Node). c.total_moved-moved.result ≡ min (sum_by (λ n. n.moved) ns)
    (2 ^ 64 - 1)) c.as_slice.ensures.value c.total_moved-moved.ensures)
    none c.settle_links.ensures.top c.turn_nodes.ensures.top empty
    (c.settle_top-2.ensures.going ∙ c.if-self-2.false)

pub first_lowered-place-requires : goal.first_lowered-place-requires
first_lowered-place-requires g c =
    subst (λ (ns : List Node). (k : ℕ) (d : Node) → k < length ns → (get_or ns k d).depth ≤ 31)
    (sym c.as_slice-2.ensures.value) c.turn_nodes.ensures.sound.shallow

pub returns-clause-falls : goal.returns-clause-falls
returns-clause-falls g c = λ some.
    let b0 : PlanBox = c.args.self.now in
    let b3 : PlanBox = c.turn_nodes.new.self in
    let b4 : PlanBox = c.settle_top-2.new.self in
    let place : lowered_first b3.nodes.items ≡ c.first_lowered-place.result =
    ap lowered_first (sym c.as_slice-2.ensures.value) ∙ sym c.first_lowered-place.ensures in
    subst (FallsAt (backlog_of b0.nodes.items) (backlog_of b4.nodes.items)) place
    (round-falls b0 c.settle_top.new.self c.settle_links.new.self b3 b4
    c.requires.sound c.settle_top-2.ensures.sound c.settle_top.ensures.looks
    c.settle_links.ensures.links (c.turn_nodes.ensures.turned c.if-self-2.false)
    c.settle_top-2.ensures.looks c.total_moved-moved.result
    (subst (λ (ns : List Node). c.total_moved-moved.result ≡ min (sum_by (λ n. n.moved) ns)
    (2 ^ 64 - 1)) c.as_slice.ensures.value c.total_moved-moved.ensures) some)

pub returns-clause-top : goal.returns-clause-top
returns-clause-top g c = λ k d last.
    c.settle_top-2.ensures.looks.waits k d (last ∙ c.settle_top-2.ensures.looks.count)

pub returns-clause-idle : goal.returns-clause-idle
returns-clause-idle g c = λ none top-taken.
    round-empty c.args.self.now c.settle_top.new.self c.settle_links.new.self c.turn_nodes.new.self
    c.settle_top-2.new.self
    c.settle_top.ensures.looks c.settle_links.ensures.links (c.turn_nodes.ensures.turned
    c.if-self-2.false) c.settle_top-2.ensures.looks c.total_moved-moved.result
    (subst (λ (ns : List Node). c.total_moved-moved.result ≡ min (sum_by (λ n. n.moved) ns)
    (2 ^ 64 - 1)) c.as_slice.ensures.value c.total_moved-moved.ensures)
    none c.settle_links.ensures.top c.turn_nodes.ensures.top c.requires.sound top-taken

pub returns-then-self-2-clause-stands : goal.returns-then-self-2-clause-stands
returns-then-self-2-clause-stands g c = λ schemas plan given got b.
    c.turn_nodes.ensures.stands schemas plan given got
    (c.settle_links.ensures.stands schemas plan given got
    (c.settle_top.ensures.stands schemas plan given got b))
