use Rattle.std.proofs.Common.{◌≡◌, ◌⊎◌, ◌≤◌, ◌+◌, ◌-◌, length, true, []}
use Rattle.std.specs.Io.KnownBytes.{prepend_known, Keeps}
use Rattle.pipes_line.specs.Bytes.{has_no_feed}
use Rattle.pipes_line.specs.Reading.{bytes_ahead}
use Rattle.pipes_line.proofs.reader.LineReader.next_line.Given as goal

abbrev pub invariant-reads : goal.invariant-reads
invariant-reads g l = record {
  bytes : Keeps (bytes_ahead l.fn.self (g.S.Source.left l.fn.src))
      (prepend_known l.self.line (bytes_ahead l.self (g.S.Source.left l.src)));
  within : has_no_feed l.self.line ≡ true;
  short : length l.self.line ≤ l.most;
  waits : ((l.self.unread ≡ l.fn.self.unread) × (l.self.line ≡ []))
      ⊎ (has_no_feed l.fn.self.unread ≡ true);
  later : g.S.Source.faults l.fn.src ≤ g.S.Source.faults l.src;
  name : g.S.Source.name l.src ≡ g.S.Source.name l.fn.src;
  found_at : g.S.Source.found_at l.src ≡ g.S.Source.found_at l.fn.src;
}

abbrev pub decreases-reads : goal.decreases-reads
decreases-reads g l = l.most + 1 - (length l.self.line + length l.self.unread)
