use Rattle.std.proofs.Common.{◌≡◌, List, [], subst, refl}
use Rattle.pipes_box.specs.declared.leaf.Leaf.{Leaf}
use Rattle.pipes_node.specs.declared.node.Node.{Node}
use Rattle.pipes_box.specs.Parts.{PartBuilt}
use Rattle.pipes_box.proofs.BoxLaw.{built-sound, built-stands}
use Rattle.pipes_box.proofs.Plans.{checks-within, can-whole}
use Rattle.pipes_box.proofs.plan_box.PlanBox.build.Goals as goal

pub returns-clause-sound : goal.returns-clause-sound
returns-clause-sound c =
    built-sound c.args.schemas.now c.args.plan.now _ c.in_ok-part.part
    (subst (λ (ls : List Leaf). PartBuilt c.args.schemas.now c.args.plan.now 0 0 []
    c.build_at.new.nodes.items ls c.build_at.new.leaves.items c.in_ok-part.part)
    c.new-leaves.ensures.items
    (subst (λ (ns : List Node). PartBuilt c.args.schemas.now c.args.plan.now 0 0 ns
    c.build_at.new.nodes.items c.new-leaves.result.items c.build_at.new.leaves.items
    c.in_ok-part.part) c.new-nodes.ensures.items c.in_ok-part.ensures.built)) refl refl

pub returns-clause-stands : goal.returns-clause-stands
returns-clause-stands c =
    built-stands c.args.schemas.now c.args.plan.now _ c.in_ok-part.part
    (subst (λ (ls : List Leaf). PartBuilt c.args.schemas.now c.args.plan.now 0 0 []
    c.build_at.new.nodes.items ls c.build_at.new.leaves.items c.in_ok-part.part)
    c.new-leaves.ensures.items
    (subst (λ (ns : List Node). PartBuilt c.args.schemas.now c.args.plan.now 0 0 ns
    c.build_at.new.nodes.items c.new-leaves.result.items c.build_at.new.leaves.items
    c.in_ok-part.part) c.new-nodes.ensures.items c.in_ok-part.ensures.built)) refl refl
    (checks-within c.args.schemas.now c.args.plan.now c.requires.checks).0

pub build_at-requires : goal.build_at-requires
build_at-requires c =
    can-whole c.args.schemas.now c.args.plan.now c.requires.typed c.requires.checks
