-- The one text in which a plan over declared sources is printed.
use Rattle.std.specs.Prelude.{ℕ, List, [], ◌∷◌, ◌++◌, codes, slice_get}
use Rattle.std.specs.Fmt.{decimal}
use Rattle.std.specs.Option.{unwrap_or}
use Rattle.pipes_relation.specs.declared.lists.Pair.{Pair}
use Rattle.pipes_relation.specs.declared.lists.Agg.{Agg}
use Rattle.pipes_relation.specs.declared.lists.Agg.TheVariants as agg
use Rattle.pipes_plan.specs.declared.plan.Plan.{Plan, fold-Plan}
use Rattle.pipes_plan.specs.declared.plan.Plan.TheOpen.{Plan-F, Source, Filter, Map, Union, Join}
use Rattle.pipes_plan.specs.declared.plan.Plan.TheOpen.{Distinct, Group, Minus}
use Rattle.pipes_print.specs.ExprText.{expr_text, list_text}

abbrev pub pair_text : Pair → List ℕ
pair_text pair = decimal pair.left ++ (codes "=" ++ decimal pair.right)

abbrev pub agg_text : Agg → List ℕ
agg_text agg.Count = codes "count"
agg_text (agg.Sum i) = codes "sum " ++ decimal i
agg_text (agg.Min i) = codes "min " ++ decimal i
agg_text (agg.Max i) = codes "max " ++ decimal i
agg_text (agg.Avg i) = codes "avg " ++ decimal i

-- the name of the source with this number; a plan of a text has no other
abbrev pub source_text : List (List ℕ) → ℕ → List ℕ
source_text names i = unwrap_or (slice_get names i) []

abbrev pub plan_step : List (List ℕ) → Plan-F (List ℕ) → List ℕ
plan_step names (Source i) = source_text names i
plan_step names (Filter c a) = codes "filter(" ++ (expr_text c ++ (codes ", " ++ (a ++ codes ")")))
plan_step names (Map es a) = codes "map(" ++ (list_text expr_text es
    ++ (codes ", " ++ (a ++ codes ")")))
plan_step names (Union a b) = codes "union(" ++ (a ++ (codes ", " ++ (b ++ codes ")")))
plan_step names (Join k c a b) = codes "join(" ++ (list_text pair_text k
    ++ (codes ", " ++ (expr_text c ++ (codes ", " ++ (a ++ (codes ", " ++ (b ++ codes ")")))))))
plan_step names (Distinct a) = codes "distinct(" ++ (a ++ codes ")")
plan_step names (Group k g a) = codes "group(" ++ (list_text decimal k
    ++ (codes ", " ++ (list_text agg_text g ++ (codes ", " ++ (a ++ codes ")")))))
plan_step names (Minus a b) = codes "minus(" ++ (a ++ (codes ", " ++ (b ++ codes ")")))

-- node by node, each source by its name
abbrev pub plan_text : List (List ℕ) → Plan → List ℕ
plan_text names = fold-Plan (List ℕ) (plan_step names)
