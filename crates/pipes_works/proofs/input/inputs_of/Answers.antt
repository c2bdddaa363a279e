use Rattle.std.proofs.Common.{◌≡◌, ℕ, ◌≤◌, ◌<◌, ◌+◌, get_or, length, subst, List, take, refl, arith, sym, ◌∙◌, [], ap}
use Rattle.std.proofs.lemmas.List.{take_all}
use Rattle.pipes_tuple.specs.declared.value.Kind.{Kind}
use Rattle.pipes_works.specs.declared.input.Input.{Input}
use Rattle.pipes_works.specs.Passed.{AreInputs}
use Rattle.pipes_works.proofs.NewInputs.{input-added, inputs-none}
use Rattle.pipes_works.proofs.input.inputs_of.Goals as goal

pub loop-source-init : goal.loop-source-init
loop-source-init c = record {
  are = subst (AreInputs c.args.plan_box.now (take 0 c.args.schemas.now)) (sym c.new-inputs.ensures.items)
      (inputs-none c.args.plan_box.now c.args.schemas.now);
}

pub loop-source-preserved : goal.loop-source-preserved
loop-source-preserved c = record {
  are =
      let within : c.loop-source.source < length c.args.schemas.now = omega (
        arith,
        c.loop-source-test.true,
        ap (λ (l : List (List Kind)). length l) c.as_slice-source-end.ensures.value,
      ) in
      subst (AreInputs c.args.plan_box.now (take (c.loop-source.source + 1) c.args.schemas.now))
      (sym c.in_ok-push.ensures.items)
      (input-added c.args.plan_box.now c.args.schemas.now c.loop-source.source
      c.loop-source.inputs.items _ c.index-as_slice-source.result within
      c.loop-source.invariant.are c.new.ensures
      (c.in_ok-schema.ensures ∙ c.index-as_slice-source.is
      ∙ ap (λ (l : List (List Kind)). get_or l c.loop-source.source
      c.index-as_slice-source.result) c.as_slice.ensures.value)
      c.in_ok-leaves.ensures);
}

pub returns : goal.returns
returns c =
    subst (λ (l : List (List Kind)). AreInputs c.args.plan_box.now l c.loop-source.inputs.items)
    (take_all c.loop-source.source c.args.schemas.now (omega (
      arith,
      c.loop-source-test.false,
      ap (λ (l : List (List Kind)). length l) c.as_slice-source-end.ensures.value,
    )))
    c.loop-source.invariant.are
