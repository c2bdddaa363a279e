use Rattle.std.proofs.Common.{◌≡◌, ◌≤◌, ℕ, map, length, get_or, None}
use Rattle.pipes_inline.specs.Standing.{AllLater, AllNew}
use Rattle.pipes_inline.proofs.starting.intakes_of.Given as goal

abbrev pub invariant-sources : goal.invariant-sources
invariant-sources g l = record {
  count : length l.intakes.items ≡ l.i;
  srcs : length l.srcs ≡ length l.initial.srcs;
  stand : AllNew l.sources (map g.S.Source.left l.initial.srcs) (map g.S.Source.left l.srcs)
      (map g.S.Source.faults l.initial.srcs) (map g.S.Source.faults l.srcs) l.i l.intakes.items;
  lefts : (k : ℕ) → l.i ≤ k → get_or (map g.S.Source.left l.srcs) k None
      ≡ get_or (map g.S.Source.left l.initial.srcs) k None;
  counts : (k : ℕ) → l.i ≤ k → get_or (map g.S.Source.faults l.srcs) k 0
      ≡ get_or (map g.S.Source.faults l.initial.srcs) k 0;
  later : AllLater (map g.S.Source.faults l.initial.srcs) (map g.S.Source.faults l.srcs);
  name : map g.S.Source.name l.srcs ≡ map g.S.Source.name l.initial.srcs;
  found_at : map g.S.Source.found_at l.srcs ≡ map g.S.Source.found_at l.initial.srcs;
}
