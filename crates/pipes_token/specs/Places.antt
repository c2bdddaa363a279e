-- Places of a text, known by line and column.
use Rattle.std.specs.Prelude.{ℕ, ◌+◌, List, take, count_by, ◌==◌}
use Rattle.std.specs.List.{suffix_len}
use Rattle.pipes_token.specs.declared.refusal.Refusal.{Refusal}
use Rattle.pipes_token.specs.declared.refusal.TextRefusal.{TextRefusal}
use Rattle.pipes_token.specs.Gaps.{is_within_line}

-- the line of what stands after these bytes: one more than the LFs among them
abbrev pub line_after : List ℕ → ℕ
line_after prefix = count_by (λ b. b == 10) prefix + 1

-- its column: one more than the bytes after the last LF
abbrev pub column_after : List ℕ → ℕ
column_after prefix = suffix_len is_within_line prefix + 1

-- the refusal of a text, known by line and column
abbrev pub located : List ℕ → Refusal → TextRefusal
located text refusal = record {
  line = line_after (take refusal.at text);
  column =
      column_after (take refusal.at text);
  why = refusal.why;
}
