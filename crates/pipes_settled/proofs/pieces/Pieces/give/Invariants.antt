use Rattle.std.proofs.Common.{◌≡◌, ◌≤◌, take, vec_len}
use Rattle.std.specs.BTreeMap.{get, btree_map_len}
use Rattle.pipes_settled.specs.Standing.{at_cmp}
use Rattle.pipes_settled.specs.Moves.{GivesFrom, IsLimit}
use Rattle.pipes_settled.proofs.pieces.Pieces.give.Given as goal

abbrev pub invariant-closed : goal.invariant-closed
invariant-closed l = record {
  longer : vec_len l.initial.out ≤ vec_len l.out;
  kept : take (vec_len l.initial.out) l.out.items ≡ l.initial.out.items;
  limit : IsLimit l.limit (get at_cmp l.self.opens);
  gives : GivesFrom l.initial.self l.self l.initial.out.items l.out.items;
}

abbrev pub decreases-closed : goal.decreases-closed
decreases-closed l = btree_map_len l.self.closed
