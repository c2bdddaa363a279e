use Rattle.std.proofs.Common.{◌≡◌, ◌∙◌, sym, subst, List, Some}
use Rattle.pipes_tuple.specs.declared.value.Kind.{Kind}
use Rattle.pipes_plan.specs.PlanKinds.{plan_kinds, filter_kinds, map_kinds, join_kinds}
use Rattle.pipes_plan.specs.PlanKinds.{sides_kinds, group_kinds}
use Rattle.pipes_flat.specs.Tasks.{filter_task, map_task, union_task}
use Rattle.pipes_pair.specs.Tasks.{join_task}
use Rattle.pipes_group.specs.Tasks.{distinct_task, group_task}
use Rattle.pipes_minus.specs.Tasks.{minus_task}
use Rattle.pipes_box.proofs.Plans.{built-one, enter-one, built-two, enter-two}
use Rattle.pipes_box.proofs.PerKind.{is-filter, is-map, is-union, is-join}
use Rattle.pipes_box.proofs.PerKind.{is-distinct, is-group, is-minus}
use Rattle.pipes_box.proofs.build.+build_at.Goals as goal

pub build_filter-returns-clause-built : goal.build_filter-returns-clause-built
build_filter-returns-clause-built t c =
    let ss : List (List Kind) = c.args.schemas.now in
    let o = is-filter ss c.args.plan.now c.args.condition.now c.args.a.now c.requires.is in
    built-one ss c.args.plan.now c.args.a.now (filter_kinds c.args.condition.now)
    (filter_task c.args.condition.now) o c.args.spot.number c.args.spot.depth
    c.child-below.result.number c.child-below.result.depth
    c.args.nodes.now.items c.build_at.new.nodes.items c.filter_over.new.nodes.items
    c.args.leaves.now.items c.build_at.new.leaves.items c.in_ok-part.part c.in_ok-whole.whole
    (enter-one ss c.args.plan.now c.args.a.now (filter_kinds c.args.condition.now)
    (filter_task c.args.condition.now) o c.args.spot.number c.args.spot.depth c.args.next.now
    c.child-below.result.number c.child-below.result.depth
    c.requires.can c.child-below.ensures.number c.child-below.ensures.depth)
    c.in_ok-part.ensures.built c.in_ok-whole.ensures.adds
    (subst (λ (k : List Kind). plan_kinds c.args.plan.now ss ≡ Some k)
    (sym c.in_ok-whole.ensures.schema) c.in_ok-schema.ensures)

pub build_map-returns-clause-built : goal.build_map-returns-clause-built
build_map-returns-clause-built t c =
    let ss : List (List Kind) = c.args.schemas.now in
    let o = is-map ss c.args.plan.now c.args.exprs.now c.args.a.now c.requires.is in
    built-one ss c.args.plan.now c.args.a.now (map_kinds c.args.exprs.now)
    (map_task c.args.exprs.now) o c.args.spot.number c.args.spot.depth
    c.child-below.result.number c.child-below.result.depth
    c.args.nodes.now.items c.build_at.new.nodes.items c.map_over.new.nodes.items
    c.args.leaves.now.items c.build_at.new.leaves.items c.in_ok-part.part c.in_ok-whole.whole
    (enter-one ss c.args.plan.now c.args.a.now (map_kinds c.args.exprs.now)
    (map_task c.args.exprs.now) o c.args.spot.number c.args.spot.depth c.args.next.now
    c.child-below.result.number c.child-below.result.depth
    c.requires.can c.child-below.ensures.number c.child-below.ensures.depth)
    c.in_ok-part.ensures.built c.in_ok-whole.ensures.adds
    (subst (λ (k : List Kind). plan_kinds c.args.plan.now ss ≡ Some k)
    (sym c.in_ok-whole.ensures.schema) c.in_ok-schema.ensures)

pub build_union-returns-clause-built : goal.build_union-returns-clause-built
build_union-returns-clause-built t c =
    let ss : List (List Kind) = c.args.schemas.now in
    let o = is-union ss c.args.plan.now c.args.a.now c.args.b.now c.requires.is in
    built-two ss c.args.plan.now c.args.a.now c.args.b.now sides_kinds (λ s t. union_task s) o
    c.args.spot.number c.args.spot.depth c.child-first.result.number c.child-second.result.number
    c.child-first.result.depth c.child-second.result.depth c.args.nodes.now.items
    c.build_at.new.nodes.items c.build_at-2.new.nodes.items c.union_over.new.nodes.items
    c.args.leaves.now.items c.build_at.new.leaves.items c.build_at-2.new.leaves.items
    c.in_ok-left.left c.in_ok-right.right c.in_ok-whole.whole
    (enter-two ss c.args.plan.now c.args.a.now c.args.b.now sides_kinds (λ s t. union_task s) o
    c.args.spot.number c.args.spot.depth c.args.next.now c.child-first.result.number
    c.child-first.result.depth c.requires.can c.child-first.ensures.number
    c.child-first.ensures.depth)
    (c.child-second.ensures.depth ∙ sym c.child-first.ensures.depth)
    (c.child-second.ensures.number ∙ c.in_ok-left.ensures.next)
    c.in_ok-left.ensures.built c.in_ok-right.ensures.built c.in_ok-whole.ensures.adds
    (subst (λ (k : List Kind). plan_kinds c.args.plan.now ss ≡ Some k)
    (sym c.in_ok-whole.ensures.schema) c.in_ok-schema.ensures)

pub build_join-returns-clause-built : goal.build_join-returns-clause-built
build_join-returns-clause-built t c =
    let ss : List (List Kind) = c.args.schemas.now in
    let k = c.args.pairs.now in
    let p = c.args.condition.now in
    let o = is-join ss c.args.plan.now k p c.args.a.now c.args.b.now c.requires.is in
    built-two ss c.args.plan.now c.args.a.now c.args.b.now (join_kinds k p) (join_task k p) o
    c.args.spot.number c.args.spot.depth c.child-first.result.number c.child-second.result.number
    c.child-first.result.depth c.child-second.result.depth c.args.nodes.now.items
    c.build_at.new.nodes.items c.build_at-2.new.nodes.items c.join_over.new.nodes.items
    c.args.leaves.now.items c.build_at.new.leaves.items c.build_at-2.new.leaves.items
    c.in_ok-left.left c.in_ok-right.right c.in_ok-whole.whole
    (enter-two ss c.args.plan.now c.args.a.now c.args.b.now (join_kinds k p) (join_task k p) o
    c.args.spot.number c.args.spot.depth c.args.next.now c.child-first.result.number
    c.child-first.result.depth c.requires.can c.child-first.ensures.number
    c.child-first.ensures.depth)
    (c.child-second.ensures.depth ∙ sym c.child-first.ensures.depth)
    (c.child-second.ensures.number ∙ c.in_ok-left.ensures.next)
    c.in_ok-left.ensures.built c.in_ok-right.ensures.built c.in_ok-whole.ensures.adds
    (subst (λ (x : List Kind). plan_kinds c.args.plan.now ss ≡ Some x)
    (sym c.in_ok-whole.ensures.schema) c.in_ok-schema.ensures)

pub build_distinct-returns-clause-built : goal.build_distinct-returns-clause-built
build_distinct-returns-clause-built t c =
    let ss : List (List Kind) = c.args.schemas.now in
    let o = is-distinct ss c.args.plan.now c.args.a.now c.requires.is in
    built-one ss c.args.plan.now c.args.a.now (λ s. Some s)
    distinct_task o c.args.spot.number c.args.spot.depth
    c.child-below.result.number c.child-below.result.depth
    c.args.nodes.now.items c.build_at.new.nodes.items c.distinct_over.new.nodes.items
    c.args.leaves.now.items c.build_at.new.leaves.items c.in_ok-part.part c.in_ok-whole.whole
    (enter-one ss c.args.plan.now c.args.a.now (λ s. Some s)
    distinct_task o c.args.spot.number c.args.spot.depth c.args.next.now
    c.child-below.result.number c.child-below.result.depth
    c.requires.can c.child-below.ensures.number c.child-below.ensures.depth)
    c.in_ok-part.ensures.built c.in_ok-whole.ensures.adds
    (subst (λ (k : List Kind). plan_kinds c.args.plan.now ss ≡ Some k)
    (sym c.in_ok-whole.ensures.schema) c.in_ok-schema.ensures)

pub build_group-returns-clause-built : goal.build_group-returns-clause-built
build_group-returns-clause-built t c =
    let ss : List (List Kind) = c.args.schemas.now in
    let o = is-group ss c.args.plan.now c.args.columns.now c.args.aggs.now c.args.a.now
    c.requires.is in
    built-one ss c.args.plan.now c.args.a.now (group_kinds c.args.columns.now c.args.aggs.now)
    (group_task c.args.columns.now c.args.aggs.now) o c.args.spot.number c.args.spot.depth
    c.child-below.result.number c.child-below.result.depth
    c.args.nodes.now.items c.build_at.new.nodes.items c.group_over.new.nodes.items
    c.args.leaves.now.items c.build_at.new.leaves.items c.in_ok-part.part c.in_ok-whole.whole
    (enter-one ss c.args.plan.now c.args.a.now (group_kinds c.args.columns.now c.args.aggs.now)
    (group_task c.args.columns.now c.args.aggs.now) o c.args.spot.number c.args.spot.depth
    c.args.next.now
    c.child-below.result.number c.child-below.result.depth
    c.requires.can c.child-below.ensures.number c.child-below.ensures.depth)
    c.in_ok-part.ensures.built c.in_ok-whole.ensures.adds
    (subst (λ (k : List Kind). plan_kinds c.args.plan.now ss ≡ Some k)
    (sym c.in_ok-whole.ensures.schema) c.in_ok-schema.ensures)

pub build_minus-returns-clause-built : goal.build_minus-returns-clause-built
build_minus-returns-clause-built t c =
    let ss : List (List Kind) = c.args.schemas.now in
    let o = is-minus ss c.args.plan.now c.args.a.now c.args.b.now c.requires.is in
    built-two ss c.args.plan.now c.args.a.now c.args.b.now sides_kinds (λ s t. minus_task s) o
    c.args.spot.number c.args.spot.depth c.child-first.result.number c.child-second.result.number
    c.child-first.result.depth c.child-second.result.depth c.args.nodes.now.items
    c.build_at.new.nodes.items c.build_at-2.new.nodes.items c.minus_over.new.nodes.items
    c.args.leaves.now.items c.build_at.new.leaves.items c.build_at-2.new.leaves.items
    c.in_ok-left.left c.in_ok-right.right c.in_ok-whole.whole
    (enter-two ss c.args.plan.now c.args.a.now c.args.b.now sides_kinds (λ s t. minus_task s) o
    c.args.spot.number c.args.spot.depth c.args.next.now c.child-first.result.number
    c.child-first.result.depth c.requires.can c.child-first.ensures.number
    c.child-first.ensures.depth)
    (c.child-second.ensures.depth ∙ sym c.child-first.ensures.depth)
    (c.child-second.ensures.number ∙ c.in_ok-left.ensures.next)
    c.in_ok-left.ensures.built c.in_ok-right.ensures.built c.in_ok-whole.ensures.adds
    (subst (λ (k : List Kind). plan_kinds c.args.plan.now ss ≡ Some k)
    (sym c.in_ok-whole.ensures.schema) c.in_ok-schema.ensures)
