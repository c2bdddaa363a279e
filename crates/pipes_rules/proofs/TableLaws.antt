-- Each name reads to its own rule, by the table's rows.
use Rattle.std.proofs.Common.{◌≡◌, ℕ, ◌<◌, ◌≤◌, Bool, true, false, cond, List, [], ◌∷◌, length, map}
use Rattle.std.proofs.Common.{refl, sym, ap, ◌∙◌, arith, Option, Some, None, slice_get, nat_lt}
use Rattle.std.specs.List.{find, position, position_or_len}
use Rattle.std.specs.Option.{option_map}
use Rattle.std.specs.Str.{bytes_eq}
use Rattle.std.proofs.lemmas.Bool.Decides.{nat_tests}
use Rattle.std.proofs.lemmas.List.Folds.{find_at}
use Rattle.std.proofs.lemmas.Option.{slice_get_past}
use Rattle.pipes_rules.specs.declared.table.Rule.{Rule}
use Rattle.pipes_rules.specs.declared.table.Rule.TheVariants as rule
use Rattle.pipes_rules.specs.declared.table.RuleRow.{RuleRow}
use Rattle.pipes_rules.specs.Names.{rule_named}
use Rattle.pipes_rules.specs.Table.{all_rules, rule_name}

pub own_name : (r : Rule) → rule_named (rule_name r) ≡ Some r
unfolding rule_named
own_name rule.FilterMerge = refl
own_name rule.FilterSwap = refl
own_name rule.FilterUnion = refl
own_name rule.FilterDistinct = refl
own_name rule.FilterMinus = refl
own_name rule.FilterMap = refl
own_name rule.FilterLeft = refl
own_name rule.FilterRight = refl
own_name rule.FilterCond = refl
own_name rule.FilterGroup = refl
own_name rule.JoinCommute = refl
own_name rule.JoinAssoc = refl
own_name rule.JoinUnion = refl
own_name rule.UnionCommute = refl
own_name rule.UnionAssoc = refl
own_name rule.DistinctTwice = refl
own_name rule.DistinctUnion = refl
own_name rule.DistinctJoin = refl
own_name rule.DistinctGroup = refl
own_name rule.MapMerge = refl
own_name rule.MapUnion = refl
own_name rule.MinusAssoc = refl
own_name rule.JoinUnionRight = refl
own_name rule.DistinctMap = refl
own_name rule.GroupDistinct = refl
own_name rule.FilterTrue = refl

-- ---- by the rows of the table

abbrev names_of : List RuleRow → List (List ℕ)
names_of rows = map (λ row. row.name.now) rows

abbrev rules_of : List RuleRow → List Rule
rules_of rows = map (λ row. row.rule) rows

heads : (x y : List ℕ) (xs ys : List (List ℕ)) → x ∷ xs ≡ y ∷ ys → x ≡ y
heads x y xs ys h = cc

tails : (x y : List ℕ) (xs ys : List (List ℕ)) → x ∷ xs ≡ y ∷ ys → xs ≡ ys
tails x y xs ys h = cc

abbrev rule_found : List ℕ → List RuleRow → Option Rule
rule_found name rows = option_map (λ row. row.rule) (find (λ row. bytes_eq row.name.now name) rows)

abbrev named_found : List ℕ → List RuleRow → Option Rule
named_found name rows = find (λ r. bytes_eq (rule_name r) name) (rules_of rows)

found_row : (name : List ℕ) (row : RuleRow) (rows : List RuleRow) (b c : Bool)
    → b ≡ c → rule_found name rows ≡ named_found name rows
    → option_map (λ (row : RuleRow). row.rule)
    (cond b (Some row) (find (λ row. bytes_eq row.name.now name) rows))
    ≡ cond c (Some row.rule) (named_found name rows)
found_row name row rows true true e h = refl
found_row name row rows true false e h = cc
found_row name row rows false true e h = cc
found_row name row rows false false e h = h

found_named : (name : List ℕ) (rows : List RuleRow)
    → names_of rows ≡ map rule_name (rules_of rows) → rule_found name rows ≡ named_found name rows
found_named name [] h = refl
found_named name (row ∷ rows) h = found_row name row rows (bytes_eq row.name.now name)
    (bytes_eq (rule_name row.rule) name) (ap (λ (t : List ℕ). bytes_eq t name)
    (heads row.name.now (rule_name row.rule) (names_of rows) (map rule_name (rules_of rows)) h))
    (found_named name rows
    (tails row.name.now (rule_name row.rule) (names_of rows) (map rule_name (rules_of rows)) h))

module _ (name : List ℕ) (rows : List RuleRow) (is : map (λ row. row.rule) rows ≡ all_rules)
    (named : map (λ row. row.name.now) rows ≡ map rule_name all_rules) where
  found_is : rule_found name rows ≡ rule_named name
  unfolding rule_named
  found_is = found_named name rows (named ∙ ap (map rule_name) (sym is))
      ∙ ap (find (λ r. bytes_eq (rule_name r) name)) is

  abbrev place : ℕ
  place = position_or_len (λ (row : RuleRow). bytes_eq row.name.now name) rows

  found_at : rule_found name rows ≡ option_map (λ row. row.rule) (slice_get rows place)
  found_at = ap (option_map (λ (row : RuleRow). row.rule))
      (find_at (λ (row : RuleRow). bytes_eq row.name.now name) rows)

  place_is : (i : ℕ) → Some i ≡ position (λ row. bytes_eq row.name.now name) rows → place ≡ i
  place_is i h = go (nat_lt place (length rows)) h where
    go : (b : Bool) → Some i ≡ cond b (Some place) None → place ≡ i
    go true e = cc
    go false e = cc

  none_there : None ≡ position (λ row. bytes_eq row.name.now name) rows → length rows ≤ place
  none_there h = go (nat_lt place (length rows)) refl h where
    go : (b : Bool) → b ≡ nat_lt place (length rows) → None ≡ cond b (Some place) None
        → length rows ≤ place
    go true e f = cc
    go false e f = grind (arith, nat_tests)

  pub some_named : (i : ℕ) (r : Option Rule)
      → Some i ≡ position (λ row. bytes_eq row.name.now name) rows
      → r ≡ option_map (λ row. row.rule) (slice_get rows i) → r ≡ rule_named name
  some_named i r h e = e ∙ ap (λ k. option_map (λ (row : RuleRow). row.rule) (slice_get rows k))
      (sym (place_is i h)) ∙ sym found_at ∙ found_is

  pub none_named : None ≡ position (λ row. bytes_eq row.name.now name) rows
      → None ≡ rule_named name
  none_named h = ap (option_map (λ (row : RuleRow). row.rule))
      (sym (slice_get_past rows place (none_there h))) ∙ sym found_at ∙ found_is

pub ruleset table_laws = (own_name, some_named, none_named)
