-- How an expression is read: its value, or its first refusal.
use Rattle.std.specs.Prelude.{ℕ, zero, suc, ℤ, pos, ◌-ℤ◌, Bool, true, false, if◌then◌else◌, nat_lt}
use Rattle.std.specs.Prelude.{nat_le, [], ◌∷◌, Option, Some, None, Ok, Err}
use Rattle.pipes_tuple.specs.declared.value.Value.TheVariants as value
use Rattle.pipes_token.specs.declared.refusal.TextWhy.TheVariants as why
use Rattle.pipes_token.specs.declared.token.Sign.{Sign as ASign}
use Rattle.pipes_token.specs.declared.token.Sign.TheVariants.{Open, Close, Dollar, Minus}
use Rattle.pipes_token.specs.declared.keyword.Keyword.{Keyword as AKeyword}
use Rattle.pipes_token.specs.declared.keyword.Keyword.TheVariants as keyword
use Rattle.pipes_token.specs.declared.token.TokenKind.{TokenKind}
use Rattle.pipes_token.specs.declared.token.TokenKind.TheVariants.{Sign, Keyword, Number, Text, Cut}
use Rattle.pipes_expr.specs.declared.expr.Expr.{Expr}
use Rattle.pipes_expr.specs.declared.expr.Expr.TheVariants as expr
use Rattle.pipes_expr.specs.declared.op.Op.{Op}
use Rattle.pipes_grammar.specs.declared.start.ExprStart.{ExprStart}
use Rattle.pipes_grammar.specs.declared.start.ExprStart.TheVariants.{Pair, Not, Column, Negative}
use Rattle.pipes_grammar.specs.declared.start.ExprStart.TheVariants.{Flag, Leaf}
use Rattle.pipes_grammar.specs.Ops.{op_of}
use Rattle.pipes_time.specs.Results.{◌>>=◌}
use Rattle.pipes_reader.specs.Reading.{Reads, run_out, refusal, refused_by, place_of}
use Rattle.pipes_reader.specs.Reading.{too_deep}
use Rattle.pipes_grammar.specs.Reading.{wanted}

abbrev pub is_close : TokenKind → Bool
is_close (Sign Close) = true
is_close _ = false

-- ---- numbers and operators

abbrev pub column_by : TokenKind → ℕ → Reads ℕ
column_by (Number n) at ts = if nat_lt n 32 then Ok (n, ts) else Err (refusal at why.Range)
column_by k at ts = Err (refused_by k at)

-- a column's number
unfoldable pub read_column : Reads ℕ
read_column [] = Err run_out
read_column (t ∷ ts) = column_by t.kind t.at ts

abbrev pub negative_by : TokenKind → ℕ → Reads ℤ
negative_by (Number n) at ts = if nat_le n 9223372036854775808 then Ok (pos 0 -ℤ pos n, ts) else Err
    (refusal at why.Range)
negative_by k at ts = Err (refused_by k at)

-- a number after a minus sign
unfoldable pub read_negative : Reads ℤ
read_negative [] = Err run_out
read_negative (t ∷ ts) = negative_by t.kind t.at ts

abbrev pub op_or : Option Op → TokenKind → ℕ → Reads Op
op_or (Some op) k at ts = Ok (op, ts)
op_or None k at ts = Err (refused_by k at)

unfoldable pub read_op : Reads Op
read_op [] = Err run_out
read_op (t ∷ ts) = op_or (op_of t.kind) t.kind t.at ts

-- ---- one level, from the reader of the next

-- after `(`
unfoldable pub pair_from : Reads Expr → Reads Expr
pair_from read ts = do
  a ← read ts
  op ← read_op a.1
  b ← read op.1
  close ← wanted is_close b.1
  Ok (expr.Binary op.0 a.0 b.0, close.1)

-- after `not`
unfoldable pub not_from : Reads Expr → Reads Expr
not_from read ts = do
  a ← read ts
  Ok (expr.Not a.0, a.1)

-- after `$`
unfoldable pub column_expr : Reads Expr
column_expr ts = do
  i ← read_column ts
  Ok (expr.Col i.0, i.1)

-- after `-`
unfoldable pub negative_expr : Reads Expr
negative_expr ts = do
  n ← read_negative ts
  Ok (expr.Literal (value.Int n.0), n.1)

abbrev pub leaf_by : TokenKind → ℕ → Reads Expr
leaf_by (Number n) at ts = if nat_lt n 9223372036854775808 then Ok
    (expr.Literal (value.Int (pos n)), ts) else Err
    (refusal at why.Range)
leaf_by (Text t) at ts = Ok (expr.Literal (value.Text t), ts)
leaf_by (Cut r) at ts = Err r
leaf_by k at ts = Err (refused_by k at)

-- how an expression begins
abbrev pub start_of_sign : ASign → ExprStart
start_of_sign Open = Pair
start_of_sign Dollar = Column
start_of_sign Minus = Negative
start_of_sign _ = Leaf

abbrev pub start_of_keyword : AKeyword → ExprStart
start_of_keyword keyword.Not = Not
start_of_keyword keyword.True = Flag true
start_of_keyword keyword.False = Flag false
start_of_keyword _ = Leaf

abbrev pub expr_start_of : TokenKind → ExprStart
expr_start_of (Sign s) = start_of_sign s
expr_start_of (Keyword k) = start_of_keyword k
expr_start_of _ = Leaf

abbrev pub expr_by_start : ExprStart → TokenKind → ℕ → Reads Expr → Reads Expr
expr_by_start Pair k at read ts = pair_from read ts
expr_by_start Not k at read ts = not_from read ts
expr_by_start Column k at read ts = column_expr ts
expr_by_start Negative k at read ts = negative_expr ts
expr_by_start (Flag b) k at read ts = Ok (expr.Literal (value.Flag b), ts)
expr_by_start Leaf k at read ts = leaf_by k at ts

-- the expression that begins with a token of this kind at this place
abbrev pub expr_by : TokenKind → ℕ → Reads Expr → Reads Expr
expr_by k at read ts = expr_by_start (expr_start_of k) k at read ts

unfoldable pub expr_layer : Reads Expr → Reads Expr
expr_layer read [] = Err run_out
expr_layer read (t ∷ ts) = expr_by t.kind t.at read ts

-- with so many levels left, in an expression that begins at this place
unfoldable pub expr_within : ℕ → ℕ → Reads Expr
expr_within zero whole ts = Err (too_deep whole ts)
expr_within (suc left) whole ts = expr_layer (expr_within left whole) ts

-- a whole expression
unfoldable pub parse_expr : Reads Expr
parse_expr ts = expr_within 32 (place_of ts) ts
