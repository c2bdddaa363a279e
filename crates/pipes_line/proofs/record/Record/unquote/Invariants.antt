use Rattle.std.proofs.Common.{◌≡◌, true}
use Rattle.pipes_line.specs.declared.quoted.Walk.TheVariants as walk
use Rattle.pipes_line.proofs.Walking.{Reaches}
use Rattle.pipes_line.proofs.record.Record.unquote.Given as goal

abbrev pub invariant-loop-byte : goal.invariant-loop-byte
invariant-loop-byte l = record {
  is_copied : l.self.is_copied ≡ true;
  begun : l.walk ≡ walk.Record → l.byte-index ≡ 0;
  known : Reaches l.line l.walk l.self.copied l.byte-index;
}
