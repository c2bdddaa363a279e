use Rattle.std.proofs.Common.{◌≡◌, Some, Ok, map, take, List}
use Rattle.pipes_edge.specs.Outside.{Names, NoneFalls}
use Rattle.pipes_window.specs.declared.item.Item.{Item}
use Rattle.pipes_relation.specs.Relations.{bag_lists}
use Rattle.pipes_plan.specs.PlanKinds.{BagsFit}
use Rattle.pipes_semantics.specs.Answer.{bags_at}
use Rattle.pipes_answer.specs.Whole.{whole_items}
use Rattle.pipes_answer.proofs.answer.bags_of.Given as goal

abbrev pub invariant-sources : goal.invariant-sources
invariant-sources g l = record {
  known : g.F.Files.known l.files ≡ g.F.Files.known l.initial.files;
  later : NoneFalls (g.F.Files.faults l.initial.files) (g.F.Files.faults l.files);
  fit : BagsFit (bag_lists l.bags.items) (map (λ s. s.schema) (take l.source-index l.sources));
  so_far : (named : Names) → g.F.Files.known l.initial.files ≡ Some named
      → (items : List (List Item)) × (whole_items named (take l.source-index l.sources) ≡ Ok items)
      × (bag_lists l.bags.items ≡ bags_at (take l.source-index l.sources) items l.time);
}
