use Rattle.std.proofs.Common.{◌≡◌, ◌≤◌, ◌++◌, length, take}
use Rattle.std.specs.List.{flat_map}
use Rattle.pipes_time.specs.Interval.{horizon}
use Rattle.pipes_window.specs.Windows.{elem_between}
use Rattle.pipes_window.proofs.window.flush.Given as goal

abbrev pub invariant-rows : goal.invariant-rows
invariant-rows l = record {
  all : l.out.items ++ flat_map
      (λ row. elem_between row.tuple row.stamp horizon) l.rows.items ≡ l.initial.out.items
      ++ flat_map (λ row. elem_between row.tuple row.stamp horizon) l.initial.rows.items;
  kept : take l.before l.out.items ≡ l.initial.out.items;
  fits : l.before ≤ length l.out.items;
  fewer : length l.rows.items ≤ length l.initial.rows.items;
}

abbrev pub decreases-rows : goal.decreases-rows
decreases-rows l = length l.rows.items
