use Rattle.std.proofs.Common.{◌≡◌, length}
use Rattle.pipes_box.specs.Networks.{IsLinked, SettlesPorts}
use Rattle.pipes_box.proofs.settling.settle_all.Given as goal

abbrev pub invariant-loop-parent : goal.invariant-loop-parent
invariant-loop-parent l = record {
  count : length l.nodes ≡ length l.initial.nodes;
  linked : IsLinked l.nodes;
  settles : SettlesPorts l.initial.nodes l.nodes l.parent 0;
}
