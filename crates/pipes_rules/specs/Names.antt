-- Which rule a name reads to.
use Rattle.std.specs.Prelude.{ℕ, Bool, true, not, ◌&&◌, ◌||◌, List, [], ◌∷◌, Option}
use Rattle.std.specs.List.{find}
use Rattle.std.specs.Str.{bytes_eq}
use Rattle.pipes_rules.specs.declared.table.Rule.{Rule}
use Rattle.pipes_rules.specs.declared.table.RuleRow.{RuleRow}
use Rattle.pipes_rules.specs.Table.{all_rules, rule_name}

-- the rule that has the name
unfoldable pub rule_named : List ℕ → Option Rule
rule_named name = find (λ r. bytes_eq (rule_name r) name) all_rules

-- another row than these, by its name and its rule
abbrev pub is_apart : RuleRow → List RuleRow → Bool
is_apart row [] = true
is_apart row (other ∷ rows) = not (bytes_eq row.name.now other.name.now
    || bytes_eq (rule_name row.rule) (rule_name other.rule)) && is_apart row rows

-- no two rows share a name or a rule
abbrev pub rows_apart : List RuleRow → Bool
rows_apart [] = true
rows_apart (row ∷ rows) = is_apart row rows && rows_apart rows
