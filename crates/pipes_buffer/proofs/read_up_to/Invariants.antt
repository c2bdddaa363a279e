use Rattle.std.proofs.Common.{◌-◌, ◌+◌, ◌≤◌, ◌≡◌, vec_len}
use Rattle.std.specs.Io.KnownBytes.{Consumes}
use Rattle.pipes_buffer.proofs.read_up_to.Given as goal

abbrev pub invariant-reads : goal.invariant-reads
invariant-reads g l = record {
  later : g.S.Source.faults l.initial.src ≤ g.S.Source.faults l.src;
  name : g.S.Source.name l.src ≡ g.S.Source.name l.initial.src;
  found_at : g.S.Source.found_at l.src ≡ g.S.Source.found_at l.initial.src;
  read : Consumes (g.S.Source.left l.initial.src) (g.S.Source.left l.src) l.bytes.items;
}

abbrev pub decreases-reads : goal.decreases-reads
decreases-reads g l = l.limit + 1 - vec_len l.bytes
