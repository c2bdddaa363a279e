-- What a rule makes of a plan, forward and back.
use Rattle.std.specs.Prelude.{List, Option, Some, None}
use Rattle.pipes_tuple.specs.declared.value.Kind.{Kind}
use Rattle.pipes_expr.specs.declared.expr.Expr.{Expr}
use Rattle.pipes_plan.specs.declared.plan.Plan.{Plan}
use Rattle.pipes_rules.specs.declared.table.Rule.{Rule}
use Rattle.pipes_rules.specs.declared.table.Rule.TheVariants as rule
use Rattle.pipes_rules.specs.declared.step.Arg.{Arg}
use Rattle.pipes_rules.specs.declared.step.Arg.TheVariants.{Nothing, OneExpr, TwoLists}
use Rattle.pipes_rewrite.specs.FilterForms.{filter_merge_to, filter_merge_from, filter_swap_to}
use Rattle.pipes_rewrite.specs.FilterForms.{filter_union_to, filter_union_from}
use Rattle.pipes_rewrite.specs.FilterForms.{filter_distinct_to, filter_distinct_from}
use Rattle.pipes_rewrite.specs.FilterForms.{filter_minus_to, filter_minus_from, filter_map_to}
use Rattle.pipes_rewrite.specs.FilterForms.{filter_map_from, filter_left_to, filter_left_from}
use Rattle.pipes_rewrite.specs.FilterForms.{filter_right_to, filter_right_from, filter_cond_to}
use Rattle.pipes_rewrite.specs.FilterForms.{filter_cond_from, filter_group_to, filter_group_from}
use Rattle.pipes_rewrite.specs.FilterForms.{filter_true_to, filter_true_from}
use Rattle.pipes_rewrite.specs.JoinForms.{join_commute_to, join_commute_from, join_assoc_to}
use Rattle.pipes_rewrite.specs.JoinForms.{join_assoc_from, join_union_to, join_union_from}
use Rattle.pipes_rewrite.specs.JoinForms.{join_union_right_to, join_union_right_from}
use Rattle.pipes_rewrite.specs.JoinForms.{distinct_join_to, distinct_join_from}
use Rattle.pipes_rewrite.specs.BagForms.{union_commute_to, union_assoc_to, union_assoc_from}
use Rattle.pipes_rewrite.specs.BagForms.{minus_assoc_to, minus_assoc_from, distinct_twice_to}
use Rattle.pipes_rewrite.specs.BagForms.{distinct_twice_from, distinct_union_to}
use Rattle.pipes_rewrite.specs.BagForms.{distinct_union_from, distinct_group_to}
use Rattle.pipes_rewrite.specs.BagForms.{distinct_group_from, distinct_map_to, distinct_map_from}
use Rattle.pipes_rewrite.specs.BagForms.{map_merge_to, map_merge_from, map_union_to}
use Rattle.pipes_rewrite.specs.BagForms.{map_union_from, group_distinct_to, group_distinct_from}

-- the right form of a left form
abbrev pub rule_forward : List (List Kind) → Rule → Plan → Option Plan
rule_forward ss rule.FilterMerge = filter_merge_to
rule_forward ss rule.FilterSwap = filter_swap_to
rule_forward ss rule.FilterUnion = filter_union_to
rule_forward ss rule.FilterDistinct = filter_distinct_to
rule_forward ss rule.FilterMinus = filter_minus_to
rule_forward ss rule.FilterMap = filter_map_to
rule_forward ss rule.FilterLeft = filter_left_to ss
rule_forward ss rule.FilterRight = filter_right_to ss
rule_forward ss rule.FilterCond = filter_cond_to
rule_forward ss rule.FilterGroup = filter_group_to
rule_forward ss rule.JoinCommute = join_commute_to ss
rule_forward ss rule.JoinAssoc = join_assoc_to ss
rule_forward ss rule.JoinUnion = join_union_to
rule_forward ss rule.UnionCommute = union_commute_to
rule_forward ss rule.UnionAssoc = union_assoc_to
rule_forward ss rule.DistinctTwice = distinct_twice_to
rule_forward ss rule.DistinctUnion = distinct_union_to
rule_forward ss rule.DistinctJoin = distinct_join_to
rule_forward ss rule.DistinctGroup = distinct_group_to
rule_forward ss rule.MapMerge = map_merge_to
rule_forward ss rule.MapUnion = map_union_to
rule_forward ss rule.MinusAssoc = minus_assoc_to
rule_forward ss rule.JoinUnionRight = join_union_right_to
rule_forward ss rule.DistinctMap = distinct_map_to
rule_forward ss rule.GroupDistinct = group_distinct_to
rule_forward ss rule.FilterTrue = filter_true_to

-- the left form of a right form, where nothing else is given
abbrev pub back_plain : List (List Kind) → Rule → Plan → Option Plan
back_plain ss rule.FilterMerge = filter_merge_from
back_plain ss rule.FilterSwap = filter_swap_to
back_plain ss rule.FilterUnion = filter_union_from
back_plain ss rule.FilterDistinct = filter_distinct_from
back_plain ss rule.FilterMinus = filter_minus_from
back_plain ss rule.FilterLeft = filter_left_from ss
back_plain ss rule.FilterRight = filter_right_from ss
back_plain ss rule.FilterCond = filter_cond_from
back_plain ss rule.JoinCommute = join_commute_from ss
back_plain ss rule.JoinAssoc = join_assoc_from ss
back_plain ss rule.JoinUnion = join_union_from
back_plain ss rule.UnionCommute = union_commute_to
back_plain ss rule.UnionAssoc = union_assoc_from
back_plain ss rule.DistinctTwice = distinct_twice_from
back_plain ss rule.DistinctUnion = distinct_union_from
back_plain ss rule.DistinctJoin = distinct_join_from
back_plain ss rule.DistinctGroup = distinct_group_from
back_plain ss rule.MapUnion = map_union_from
back_plain ss rule.MinusAssoc = minus_assoc_from
back_plain ss rule.JoinUnionRight = join_union_right_from
back_plain ss rule.DistinctMap = distinct_map_from
back_plain ss rule.GroupDistinct = group_distinct_from
back_plain ss rule.FilterTrue = filter_true_from
back_plain ss _ = λ plan. None

-- the same, where an expression is given
abbrev pub back_with_expr : Rule → Expr → Plan → Option Plan
back_with_expr rule.FilterMap p = filter_map_from p
back_with_expr rule.FilterGroup p = filter_group_from p
back_with_expr _ p = λ plan. None

-- the same, where two lists of expressions are given
abbrev pub back_with_lists : Rule → List Expr → List Expr → Plan → Option Plan
back_with_lists rule.MapMerge es fs = map_merge_from es fs
back_with_lists _ es fs = λ plan. None

abbrev pub rule_back : List (List Kind) → Rule → Arg → Plan → Option Plan
rule_back ss r Nothing = back_plain ss r
rule_back ss r (OneExpr p) = back_with_expr r p
rule_back ss r (TwoLists es fs) = back_with_lists r es fs
