-- The rules, their names and what they take back.
use Rattle.std.specs.Prelude.{ℕ, List, [], ◌∷◌, codes}
use Rattle.pipes_rules.specs.declared.table.Rule.{Rule}
use Rattle.pipes_rules.specs.declared.table.Rule.TheVariants as rule
use Rattle.pipes_rules.specs.declared.table.ArgKind.{ArgKind}
use Rattle.pipes_rules.specs.declared.table.ArgKind.TheVariants.{Nothing, OneExpr, TwoLists}

-- all rules, in the order of the table
abbrev pub all_rules : List Rule
all_rules =
    rule.FilterMerge ∷
    rule.FilterSwap ∷
    rule.FilterUnion ∷
    rule.FilterDistinct ∷
    rule.FilterMinus ∷
    rule.FilterMap ∷
    rule.FilterLeft ∷
    rule.FilterRight ∷
    rule.FilterCond ∷
    rule.FilterGroup ∷
    rule.JoinCommute ∷
    rule.JoinAssoc ∷
    rule.JoinUnion ∷
    rule.UnionCommute ∷
    rule.UnionAssoc ∷
    rule.DistinctTwice ∷
    rule.DistinctUnion ∷
    rule.DistinctJoin ∷
    rule.DistinctGroup ∷
    rule.MapMerge ∷
    rule.MapUnion ∷
    rule.MinusAssoc ∷
    rule.JoinUnionRight ∷
    rule.DistinctMap ∷
    rule.GroupDistinct ∷
    rule.FilterTrue ∷
    []

abbrev pub rule_name : Rule → List ℕ
rule_name rule.FilterMerge = codes "filter_merge"
rule_name rule.FilterSwap = codes "filter_swap"
rule_name rule.FilterUnion = codes "filter_union"
rule_name rule.FilterDistinct = codes "filter_distinct"
rule_name rule.FilterMinus = codes "filter_minus"
rule_name rule.FilterMap = codes "filter_map"
rule_name rule.FilterLeft = codes "filter_left"
rule_name rule.FilterRight = codes "filter_right"
rule_name rule.FilterCond = codes "filter_cond"
rule_name rule.FilterGroup = codes "filter_group"
rule_name rule.JoinCommute = codes "join_commute"
rule_name rule.JoinAssoc = codes "join_assoc"
rule_name rule.JoinUnion = codes "join_union"
rule_name rule.UnionCommute = codes "union_commute"
rule_name rule.UnionAssoc = codes "union_assoc"
rule_name rule.DistinctTwice = codes "distinct_twice"
rule_name rule.DistinctUnion = codes "distinct_union"
rule_name rule.DistinctJoin = codes "distinct_join"
rule_name rule.DistinctGroup = codes "distinct_group"
rule_name rule.MapMerge = codes "map_merge"
rule_name rule.MapUnion = codes "map_union"
rule_name rule.MinusAssoc = codes "minus_assoc"
rule_name rule.JoinUnionRight = codes "join_union_right"
rule_name rule.DistinctMap = codes "distinct_map"
rule_name rule.GroupDistinct = codes "group_distinct"
rule_name rule.FilterTrue = codes "filter_true"

-- what a step back takes beside the plan
abbrev pub back_arg_of : Rule → ArgKind
back_arg_of rule.FilterMap = OneExpr
back_arg_of rule.FilterGroup = OneExpr
back_arg_of rule.MapMerge = TwoLists
back_arg_of _ = Nothing
