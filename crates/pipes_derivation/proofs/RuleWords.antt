-- The name of each rule is a word that is no keyword.
use Rattle.std.proofs.Common.{◌≡◌, ℕ, true, nat_le, List, length, None, refl}
use Rattle.std.specs.Prelude.{codes}
use Rattle.std.proofs.lemmas.Bool.{leb-true}
use Rattle.pipes_token.specs.Spelling.{is_word}
use Rattle.pipes_token.proofs.ByFirst.{keyword_of, missing_keyword}
use Rattle.pipes_reader.specs.Names.{IsSourceName}
use Rattle.pipes_rules.specs.declared.table.Rule.{Rule}
use Rattle.pipes_rules.specs.declared.table.Rule.TheVariants as rule
use Rattle.pipes_rules.specs.Table.{rule_name}

word_by : (w : List ℕ) → is_word w ≡ true → nat_le (length w) 64 ≡ true → keyword_of w ≡ None
    → IsSourceName w
word_by w word short none = ((word, leb-true (length w) 64 short), missing_keyword w none)

pub rule_word : (r : Rule) → IsSourceName (rule_name r)
unfolding keyword_of
rule_word rule.FilterMerge = word_by (codes "filter_merge") refl refl refl
rule_word rule.FilterSwap = word_by (codes "filter_swap") refl refl refl
rule_word rule.FilterUnion = word_by (codes "filter_union") refl refl refl
rule_word rule.FilterDistinct = word_by (codes "filter_distinct") refl refl refl
rule_word rule.FilterMinus = word_by (codes "filter_minus") refl refl refl
rule_word rule.FilterMap = word_by (codes "filter_map") refl refl refl
rule_word rule.FilterLeft = word_by (codes "filter_left") refl refl refl
rule_word rule.FilterRight = word_by (codes "filter_right") refl refl refl
rule_word rule.FilterCond = word_by (codes "filter_cond") refl refl refl
rule_word rule.FilterGroup = word_by (codes "filter_group") refl refl refl
rule_word rule.JoinCommute = word_by (codes "join_commute") refl refl refl
rule_word rule.JoinAssoc = word_by (codes "join_assoc") refl refl refl
rule_word rule.JoinUnion = word_by (codes "join_union") refl refl refl
rule_word rule.UnionCommute = word_by (codes "union_commute") refl refl refl
rule_word rule.UnionAssoc = word_by (codes "union_assoc") refl refl refl
rule_word rule.DistinctTwice = word_by (codes "distinct_twice") refl refl refl
rule_word rule.DistinctUnion = word_by (codes "distinct_union") refl refl refl
rule_word rule.DistinctJoin = word_by (codes "distinct_join") refl refl refl
rule_word rule.DistinctGroup = word_by (codes "distinct_group") refl refl refl
rule_word rule.MapMerge = word_by (codes "map_merge") refl refl refl
rule_word rule.MapUnion = word_by (codes "map_union") refl refl refl
rule_word rule.MinusAssoc = word_by (codes "minus_assoc") refl refl refl
rule_word rule.JoinUnionRight = word_by (codes "join_union_right") refl refl refl
rule_word rule.DistinctMap = word_by (codes "distinct_map") refl refl refl
rule_word rule.GroupDistinct = word_by (codes "group_distinct") refl refl refl
rule_word rule.FilterTrue = word_by (codes "filter_true") refl refl refl
