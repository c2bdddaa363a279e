use Rattle.std.proofs.Common.{◌≡◌, ◌<◌, ◌∙◌, sym, ap, subst, arith, List, [], length, get_or}
use Rattle.std.proofs.Common.{Option, Some, slice_get}
use Rattle.pipes_tuple.specs.declared.value.Kind.{Kind}
use Rattle.pipes_box.proofs.Plans.{source-is, built-source}
use Rattle.pipes_box.proofs.build.source_at.Goals as goal

pub bounds-as_slice-source : goal.bounds-as_slice-source
bounds-as_slice-source c =
    let r = source-is c.args.schemas.now c.args.plan.now c.args.source [] c.requires.source
    c.requires.typed in
    omega (arith, r.0, ap length c.as_slice.ensures.value)

pub returns : goal.returns
returns c =
    let ss : List (List Kind) = c.args.schemas.now in
    let s : List Kind = c.index-as_slice-source.result in
    let r = source-is ss c.args.plan.now c.args.source s c.requires.source c.requires.typed in
    let read : get_or ss c.args.source s ≡ c.in_ok-part.part.schema =
    ap (λ (xs : List (List Kind)). get_or xs c.args.source s) (sym c.as_slice.ensures.value)
    ∙ sym c.index-as_slice-source.is ∙ sym c.in_ok-schema.ensures
    ∙ sym c.in_ok-part.ensures.schema in
    built-source ss c.args.plan.now c.args.source c.args.spot.number c.args.spot.depth
    c.args.nodes.now.items
    c.add_source.new.nodes.items c.args.leaves.now.items c.add_source.new.leaves.items
    c.in_ok-part.part c.requires.source
    (subst (λ (k : List Kind). slice_get ss c.args.source ≡ Some k) read r.1) c.requires.shallow
    c.in_ok-part.ensures.nodes c.in_ok-part.ensures.root c.in_ok-part.ensures.leaves
