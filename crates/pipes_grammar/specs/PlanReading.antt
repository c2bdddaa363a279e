-- How a plan is read: its value, or its first refusal.
use Rattle.std.specs.Prelude.{ℕ, zero, suc, Bool, true, false, List, [], ◌∷◌, Option, Some, None}
use Rattle.std.specs.Prelude.{Ok, Err}
use Rattle.pipes_token.specs.declared.refusal.TextWhy.TheVariants as why
use Rattle.pipes_token.specs.declared.token.Sign.TheVariants.{Open, Comma}
use Rattle.pipes_token.specs.declared.keyword.Keyword.{Keyword as AKeyword}
use Rattle.pipes_token.specs.declared.keyword.Keyword.TheVariants as keyword
use Rattle.pipes_token.specs.declared.token.TokenKind.{TokenKind}
use Rattle.pipes_token.specs.declared.token.TokenKind.TheVariants.{Sign, Keyword, Name}
use Rattle.pipes_expr.specs.declared.expr.Expr.{Expr}
use Rattle.pipes_relation.specs.declared.lists.Pair.{Pair}
use Rattle.pipes_relation.specs.declared.lists.Agg.{Agg}
use Rattle.pipes_plan.specs.declared.plan.Plan.{Plan}
use Rattle.pipes_plan.specs.declared.plan.Plan.TheVariants as plan
use Rattle.pipes_grammar.specs.declared.start.PlanStart.{PlanStart}
use Rattle.pipes_grammar.specs.declared.start.PlanStart.TheVariants.{Source, Filter, Map, Union}
use Rattle.pipes_grammar.specs.declared.start.PlanStart.TheVariants.{Join, Distinct, Group, Minus}
use Rattle.pipes_grammar.specs.Grammar.{source_named}
use Rattle.pipes_time.specs.Results.{◌>>=◌}
use Rattle.pipes_reader.specs.Reading.{Reads, run_out, refusal, refused_by, place_of}
use Rattle.pipes_reader.specs.Reading.{too_deep}
use Rattle.pipes_grammar.specs.Reading.{wanted}
use Rattle.pipes_grammar.specs.ExprReading.{is_close, parse_expr}
use Rattle.pipes_grammar.specs.ListReading.{parse_exprs, parse_pairs, parse_columns, parse_aggs}

abbrev pub is_open : TokenKind → Bool
is_open (Sign Open) = true
is_open _ = false

abbrev pub is_comma : TokenKind → Bool
is_comma (Sign Comma) = true
is_comma _ = false

-- ---- what stands before the plans of a node, from `(` on

-- the condition of a filter
unfoldable pub filter_head : Reads Expr
filter_head ts = do
  start ← wanted is_open ts
  c ← parse_expr start.1
  comma ← wanted is_comma c.1
  Ok (c.0, comma.1)

unfoldable pub map_head : Reads (List Expr)
map_head ts = do
  start ← wanted is_open ts
  es ← parse_exprs start.1
  comma ← wanted is_comma es.1
  Ok (es.0, comma.1)

unfoldable pub join_head : Reads (List Pair × Expr)
join_head ts = do
  start ← wanted is_open ts
  pairs ← parse_pairs start.1
  comma ← wanted is_comma pairs.1
  c ← parse_expr comma.1
  comma ← wanted is_comma c.1
  Ok ((pairs.0, c.0), comma.1)

unfoldable pub group_head : Reads (List ℕ × List Agg)
group_head ts = do
  start ← wanted is_open ts
  columns ← parse_columns start.1
  comma ← wanted is_comma columns.1
  aggs ← parse_aggs comma.1
  comma ← wanted is_comma aggs.1
  Ok ((columns.0, aggs.0), comma.1)

-- ---- the plans of a node, up to `)`

unfoldable pub one_from : Reads Plan → Reads Plan
one_from read ts = do
  a ← read ts
  close ← wanted is_close a.1
  Ok (a.0, close.1)

unfoldable pub two_from : Reads Plan → Reads (Plan × Plan)
two_from read ts = do
  a ← read ts
  comma ← wanted is_comma a.1
  b ← read comma.1
  close ← wanted is_close b.1
  Ok ((a.0, b.0), close.1)

-- ---- nodes, after their keyword

unfoldable pub filter_from : Reads Plan → Reads Plan
filter_from read ts = do
  c ← filter_head ts
  a ← one_from read c.1
  Ok (plan.Filter c.0 a.0, a.1)

unfoldable pub map_from : Reads Plan → Reads Plan
map_from read ts = do
  es ← map_head ts
  a ← one_from read es.1
  Ok (plan.Map es.0 a.0, a.1)

unfoldable pub union_from : Reads Plan → Reads Plan
union_from read ts = do
  start ← wanted is_open ts
  ab ← two_from read start.1
  Ok (plan.Union ab.0.0 ab.0.1, ab.1)

unfoldable pub join_from : Reads Plan → Reads Plan
join_from read ts = do
  head ← join_head ts
  ab ← two_from read head.1
  Ok (plan.Join head.0.0 head.0.1 ab.0.0 ab.0.1, ab.1)

unfoldable pub distinct_from : Reads Plan → Reads Plan
distinct_from read ts = do
  start ← wanted is_open ts
  a ← one_from read start.1
  Ok (plan.Distinct a.0, a.1)

unfoldable pub group_from : Reads Plan → Reads Plan
group_from read ts = do
  head ← group_head ts
  a ← one_from read head.1
  Ok (plan.Group head.0.0 head.0.1 a.0, a.1)

unfoldable pub minus_from : Reads Plan → Reads Plan
minus_from read ts = do
  start ← wanted is_open ts
  ab ← two_from read start.1
  Ok (plan.Minus ab.0.0 ab.0.1, ab.1)

-- ---- levels

abbrev pub source_or : Option ℕ → ℕ → Reads Plan
source_or (Some i) at ts = Ok (plan.Source i, ts)
source_or None at ts = Err (refusal at why.Name)

abbrev pub source_by : List (List ℕ) → TokenKind → ℕ → Reads Plan
source_by names (Name word) at ts = source_or (source_named names word) at ts
source_by names k at ts = Err (refused_by k at)

-- how a plan begins
abbrev pub plan_start_of_keyword : AKeyword → PlanStart
plan_start_of_keyword keyword.Filter = Filter
plan_start_of_keyword keyword.Map = Map
plan_start_of_keyword keyword.Union = Union
plan_start_of_keyword keyword.Join = Join
plan_start_of_keyword keyword.Distinct = Distinct
plan_start_of_keyword keyword.Group = Group
plan_start_of_keyword keyword.Minus = Minus
plan_start_of_keyword _ = Source

abbrev pub plan_start_of : TokenKind → PlanStart
plan_start_of (Keyword k) = plan_start_of_keyword k
plan_start_of _ = Source

abbrev pub plan_by_start : PlanStart → List (List ℕ) → TokenKind → ℕ → Reads Plan → Reads Plan
plan_by_start Source names k at read ts = source_by names k at ts
plan_by_start Filter names k at read ts = filter_from read ts
plan_by_start Map names k at read ts = map_from read ts
plan_by_start Union names k at read ts = union_from read ts
plan_by_start Join names k at read ts = join_from read ts
plan_by_start Distinct names k at read ts = distinct_from read ts
plan_by_start Group names k at read ts = group_from read ts
plan_by_start Minus names k at read ts = minus_from read ts

-- the plan that begins with a token of this kind at this place
abbrev pub plan_by : List (List ℕ) → TokenKind → ℕ → Reads Plan → Reads Plan
plan_by names k at read ts = plan_by_start (plan_start_of k) names k at read ts

unfoldable pub plan_layer : List (List ℕ) → Reads Plan → Reads Plan
plan_layer names read [] = Err run_out
plan_layer names read (t ∷ ts) = plan_by names t.kind t.at read ts

-- with so many levels left, in a plan that begins at this place
unfoldable pub plan_within : List (List ℕ) → ℕ → ℕ → Reads Plan
plan_within names zero whole ts = Err (too_deep whole ts)
plan_within names (suc left) whole ts = plan_layer names (plan_within names left whole) ts

-- a whole plan
unfoldable pub parse_plan : List (List ℕ) → Reads Plan
parse_plan names ts = plan_within names 32 (place_of ts) ts
