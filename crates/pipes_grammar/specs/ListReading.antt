-- How a list in brackets is read.
use Rattle.std.specs.Prelude.{ℕ, zero, suc, Bool, true, false, List, [], ◌∷◌, ◌++◌, Result, Ok, Err}
use Rattle.pipes_token.specs.declared.refusal.Refusal.{Refusal}
use Rattle.pipes_token.specs.declared.token.Sign.TheVariants.{OpenList, CloseList, Comma, Equal}
use Rattle.pipes_token.specs.declared.keyword.Keyword.{Keyword as AKeyword}
use Rattle.pipes_token.specs.declared.keyword.Keyword.TheVariants as keyword
use Rattle.pipes_token.specs.declared.token.TokenKind.{TokenKind}
use Rattle.pipes_token.specs.declared.token.TokenKind.TheVariants.{Sign, Keyword}
use Rattle.pipes_token.specs.declared.token.Token.{Token}
use Rattle.pipes_expr.specs.declared.expr.Expr.{Expr}
use Rattle.pipes_relation.specs.declared.lists.Pair.{Pair}
use Rattle.pipes_relation.specs.declared.lists.Agg.{Agg}
use Rattle.pipes_relation.specs.declared.lists.Agg.TheVariants as agg
use Rattle.pipes_grammar.specs.declared.start.AggStart.{AggStart}
use Rattle.pipes_grammar.specs.declared.start.AggStart.TheVariants.{Count, Sum, Min, Max, Avg}
use Rattle.pipes_grammar.specs.declared.start.AggStart.TheVariants.{Other}
use Rattle.pipes_time.specs.Results.{◌>>=◌}
use Rattle.pipes_reader.specs.Reading.{Reads, run_out, refused_by, too_many}
use Rattle.pipes_grammar.specs.Reading.{wanted}
use Rattle.pipes_grammar.specs.ExprReading.{read_column, parse_expr}

abbrev pub is_open_list : TokenKind → Bool
is_open_list (Sign OpenList) = true
is_open_list _ = false

abbrev pub is_equal : TokenKind → Bool
is_equal (Sign Equal) = true
is_equal _ = false

-- ---- entries

abbrev pub goes_on_by : TokenKind → ℕ → Reads Bool
goes_on_by (Sign Comma) at ts = Ok (true, ts)
goes_on_by (Sign CloseList) at ts = Ok (false, ts)
goes_on_by k at ts = Err (refused_by k at)

-- whether a comma follows, or the end of the list
unfoldable pub read_goes_on : Reads Bool
read_goes_on [] = Err run_out
read_goes_on (t ∷ ts) = goes_on_by t.kind t.at ts

-- an entry, and whether another follows
unfoldable pub step_from : {A : Type 0} → Reads A → Reads (A × Bool)
step_from read ts = do
  x ← read ts
  goes_on ← read_goes_on x.1
  Ok ((x.0, goes_on.0), goes_on.1)

-- what is read after other entries
abbrev pub after_prefix : {A : Type 0} → List A → Result (List A × List Token) Refusal
    → Result (List A × List Token) Refusal
after_prefix prefix others = others >>= λ xs. Ok (prefix ++ xs.0, xs.1)

abbrev pub followed_by : {A : Type 0} → A × Bool → Reads (List A) → Reads (List A)
followed_by (x, true) others ts = after_prefix (x ∷ []) (others ts)
followed_by (x, false) others ts = Ok (x ∷ [], ts)

-- at most so many entries and the end of the list
unfoldable pub entries_within : {A : Type 0} → Reads A → ℕ → Reads (List A)
entries_within read zero ts = Err (too_many ts)
entries_within read (suc left) ts = do
  x ← step_from read ts
  followed_by x.0 (entries_within read left) x.1

-- a list that isn't empty
unfoldable pub filled_from : {A : Type 0} → Reads A → Reads (List A)
filled_from read ts = do
  start ← wanted is_open_list ts
  entries_within read 32 start.1

abbrev pub list_by : {A : Type 0} → TokenKind → Token → Reads A → Reads (List A)
list_by (Sign CloseList) t read ts = Ok ([], ts)
list_by k t read ts = entries_within read 32 (t ∷ ts)

-- after `[`
unfoldable pub entries_from : {A : Type 0} → Reads A → Reads (List A)
entries_from read [] = Err run_out
entries_from read (t ∷ ts) = list_by t.kind t read ts

-- a list that may be empty
unfoldable pub list_from : {A : Type 0} → Reads A → Reads (List A)
list_from read ts = do
  start ← wanted is_open_list ts
  entries_from read start.1

-- ---- the entries of plans

unfoldable pub read_pair : Reads Pair
read_pair ts = do
  left ← read_column ts
  equal ← wanted is_equal left.1
  right ← read_column equal.1
  Ok (record { left = left.0; right = right.0 }, right.1)

-- an aggregate of a column
unfoldable pub agg_of : (ℕ → Agg) → Reads Agg
agg_of make ts = do
  i ← read_column ts
  Ok (make i.0, i.1)

-- how an aggregate begins
abbrev pub agg_start_of_keyword : AKeyword → AggStart
agg_start_of_keyword keyword.Count = Count
agg_start_of_keyword keyword.Sum = Sum
agg_start_of_keyword keyword.Min = Min
agg_start_of_keyword keyword.Max = Max
agg_start_of_keyword keyword.Avg = Avg
agg_start_of_keyword _ = Other

abbrev pub agg_start_of : TokenKind → AggStart
agg_start_of (Keyword k) = agg_start_of_keyword k
agg_start_of _ = Other

abbrev pub agg_by : AggStart → TokenKind → ℕ → Reads Agg
agg_by Count k at ts = Ok (agg.Count, ts)
agg_by Sum k at ts = agg_of (λ i. agg.Sum i) ts
agg_by Min k at ts = agg_of (λ i. agg.Min i) ts
agg_by Max k at ts = agg_of (λ i. agg.Max i) ts
agg_by Avg k at ts = agg_of (λ i. agg.Avg i) ts
agg_by Other k at ts = Err (refused_by k at)

unfoldable pub read_agg : Reads Agg
read_agg [] = Err run_out
read_agg (t ∷ ts) = agg_by (agg_start_of t.kind) t.kind t.at ts

unfoldable pub parse_exprs : Reads (List Expr)
parse_exprs ts = filled_from parse_expr ts

unfoldable pub parse_pairs : Reads (List Pair)
parse_pairs ts = list_from read_pair ts

unfoldable pub parse_columns : Reads (List ℕ)
parse_columns ts = list_from read_column ts

unfoldable pub parse_aggs : Reads (List Agg)
parse_aggs ts = list_from read_agg ts
