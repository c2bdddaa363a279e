use Rattle.std.proofs.Common.{◌≡◌, take}
use Rattle.pipes_works.specs.Passed.{AreInputs}
use Rattle.pipes_works.proofs.input.inputs_of.Given as goal

abbrev pub invariant-loop-source : goal.invariant-loop-source
invariant-loop-source l = record {
  are : AreInputs l.plan_box (take l.source l.schemas) l.inputs.items;
}
