use Rattle.std.proofs.Common.{◌≡◌, ◌≤◌, ◌+◌, ◌-◌, false, length, map, drop, []}
use Rattle.csv.specs.Machine.{next_record}
use Rattle.csv.specs.Reading.{default_config}
use Rattle.csv.specs.declared.parser.State.TheVariants as state
use Rattle.pipes_line.specs.Bytes.{bytes_in}
use Rattle.pipes_line.specs.Parts.{state_at}
use Rattle.pipes_line.proofs.record.Record.split.Given as goal

abbrev pub invariant-fields : goal.invariant-fields
invariant-fields l = record {
  within : l.from ≤ length l.line;
  copied : l.self.is_copied ≡ false;
  known : next_record default_config state.StartRecord [] [] l.line
      ≡ next_record default_config (state_at l.from) (map (bytes_in l.line) l.self.parts.items) []
      (drop l.from l.line);
}

abbrev pub decreases-fields : goal.decreases-fields
decreases-fields l = length l.line + 1 - l.from
