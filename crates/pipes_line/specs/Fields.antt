-- The fields of a line.
use Rattle.std.specs.Prelude.{ℕ, List, map, if◌then◌else◌}
use Rattle.pipes_line.specs.declared.record.Record.{Record}
use Rattle.pipes_line.specs.Bytes.{bytes_in}

-- the fields of the record that was read from this line: parts of the line itself, or copied
-- without their quotes
abbrev pub fields_in : Record → List ℕ → List (List ℕ)
fields_in r line = if r.is_copied then r.copied.closed else map (bytes_in line) r.parts.items
