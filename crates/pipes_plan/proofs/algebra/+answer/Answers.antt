use Rattle.std.proofs.Common.{rules, ap, ◌∙◌}
use Rattle.pipes_plan.specs.declared.plan.Plan.{the_lemmas}
use Rattle.pipes_relation.specs.Relations.{bag_lists}
use Rattle.pipes_plan.specs.Algebra.{alg}
use Rattle.pipes_plan.proofs.AnswerFits.{join_room, group_columns}
use Rattle.pipes_plan.proofs.PlanTyped.{map_child, group_child, union_right, minus_right, join_left}
use Rattle.pipes_plan.proofs.PlanTyped.{join_right, map_width, group_width}
use Rattle.pipes_plan.proofs.algebra.+answer.Goals as goal

pub answer-requires-in-Map : goal.answer-requires-in-Map
answer-requires-in-Map t c = (
  search (rules, the_lemmas),
  (
    map_child c.args.schemas.now c.in-Map.exprs c.args.plan.now
        c.in-Map.a c.get-in-Map.result.now c.in-Map.is c.get-in-Map.ensures c.requires.typed,
    c.requires.fit,
  ),
)

pub mapped-requires : goal.mapped-requires
mapped-requires t c =
    map_width c.args.schemas.now c.in-Map.exprs c.as_slice.result.now c.args.plan.now c.in-Map.a
    c.in-Map.is c.as_slice.ensures.value c.requires.typed

pub answer-requires-in-Union-2 : goal.answer-requires-in-Union-2
answer-requires-in-Union-2 t c = (
  search (rules, the_lemmas),
  (
    union_right c.args.schemas.now c.args.plan.now c.in-Union.a
        c.in-Union.b c.get-in-Union-2.result.now c.in-Union.is c.get-in-Union-2.ensures
        c.requires.typed,
    c.requires.fit,
  ),
)

pub answer-requires-in-Join : goal.answer-requires-in-Join
answer-requires-in-Join t c = (
  search (rules, the_lemmas),
  (
    join_left c.args.schemas.now c.in-Join.pairs c.in-Join.condition
        c.args.plan.now c.in-Join.a c.in-Join.b c.get-in-Join.result.now c.in-Join.is
        c.get-in-Join.ensures c.requires.typed,
    c.requires.fit,
  ),
)

pub answer-requires-in-Join-2 : goal.answer-requires-in-Join-2
answer-requires-in-Join-2 t c = (
  search (rules, the_lemmas),
  (
    join_right c.args.schemas.now c.in-Join.pairs c.in-Join.condition
        c.args.plan.now c.in-Join.a c.in-Join.b c.get-in-Join-2.result.now c.in-Join.is
        c.get-in-Join-2.ensures c.requires.typed,
    c.requires.fit,
  ),
)

pub answer-requires-in-Group : goal.answer-requires-in-Group
answer-requires-in-Group t c = (
  search (rules, the_lemmas),
  (
    group_child c.args.schemas.now c.in-Group.columns c.in-Group.aggs
        c.args.plan.now c.in-Group.a c.get-in-Group.result.now c.in-Group.is c.get-in-Group.ensures
        c.requires.typed,
    c.requires.fit,
  ),
)

pub grouped-requires-clause-width : goal.grouped-requires-clause-width
grouped-requires-clause-width t c =
    group_width c.args.schemas.now c.in-Group.columns c.in-Group.aggs c.as_slice-in-Group.result.now
    c.args.plan.now c.in-Group.a c.in-Group.is c.as_slice-in-Group.ensures.value
    c.requires.typed

pub answer-requires-in-Minus-2 : goal.answer-requires-in-Minus-2
answer-requires-in-Minus-2 t c = (
  search (rules, the_lemmas),
  (
    minus_right c.args.schemas.now c.args.plan.now c.in-Minus.a
        c.in-Minus.b c.get-in-Minus-2.result.now c.in-Minus.is c.get-in-Minus-2.ensures
        c.requires.typed,
    c.requires.fit,
  ),
)

pub joined-requires-clause-room : goal.joined-requires-clause-room
joined-requires-clause-room t c =
    join_room c.args.schemas.now (bag_lists c.args.bags.now) c.in-Join.pairs c.in-Join.condition
    c.args.plan.now c.in-Join.a c.in-Join.b c.as_slice-in-Join-2.result.now
    c.in_ok-right-in-Join.right.items c.in-Join.is c.requires.fit c.requires.typed
    (c.as_slice-in-Join-2.ensures.value ∙ c.in_ok-left-in-Join.ensures
    ∙ ap (λ plan. alg plan (bag_lists c.args.bags.now)) c.get-in-Join.ensures)
    (c.in_ok-right-in-Join.ensures
    ∙ ap (λ plan. alg plan (bag_lists c.args.bags.now)) c.get-in-Join-2.ensures)

pub grouped-requires-clause-columns : goal.grouped-requires-clause-columns
grouped-requires-clause-columns t c =
    group_columns c.args.schemas.now (bag_lists c.args.bags.now) c.in-Group.columns c.in-Group.aggs
    c.args.plan.now c.in-Group.a c.in_ok-rows-in-Group.rows.items c.in-Group.is c.requires.fit
    c.requires.typed
    (c.in_ok-rows-in-Group.ensures
    ∙ ap (λ plan. alg plan (bag_lists c.args.bags.now)) c.get-in-Group.ensures)
