-- The grammar of expressions and plans, rule by rule: which kinds of tokens are a sentence, and
-- which value it has.
-- The limits of depth and of lists stand apart, in Limits.
use Rattle.std.specs.Prelude.{◌≡◌, ◌≤◌, ◌<◌, ℕ, pos, ◌-ℤ◌, true, false, List, [], ◌∷◌, ◌++◌, Option}
use Rattle.std.specs.Prelude.{Some}
use Rattle.std.specs.List.{position}
use Rattle.std.specs.Str.{bytes_eq}
use Rattle.pipes_tuple.specs.declared.value.Value.TheVariants as value
use Rattle.pipes_token.specs.declared.token.Sign.TheVariants.{Open, Close, OpenList, CloseList}
use Rattle.pipes_token.specs.declared.token.Sign.TheVariants.{Comma, Dollar, Equal, Minus}
use Rattle.pipes_token.specs.declared.keyword.Keyword.TheVariants as keyword
use Rattle.pipes_token.specs.declared.token.TokenKind.{TokenKind}
use Rattle.pipes_token.specs.declared.token.TokenKind.TheVariants.{Sign, Keyword, Name, Number}
use Rattle.pipes_token.specs.declared.token.TokenKind.TheVariants.{Text}
use Rattle.pipes_expr.specs.declared.expr.Expr.{Expr}
use Rattle.pipes_expr.specs.declared.expr.Expr.TheVariants as expr
use Rattle.pipes_relation.specs.declared.lists.Pair.{Pair}
use Rattle.pipes_relation.specs.declared.lists.Agg.{Agg}
use Rattle.pipes_relation.specs.declared.lists.Agg.TheVariants as agg
use Rattle.pipes_plan.specs.declared.plan.Plan.{Plan}
use Rattle.pipes_plan.specs.declared.plan.Plan.TheVariants as plan
use Rattle.pipes_expr.specs.declared.op.Op.{Op}
use Rattle.pipes_reader.specs.Names.{IsSourceName}
use Rattle.pipes_grammar.specs.Ops.{op_of}

-- ---- `expr`

pub data IsExpr : Expr → List TokenKind → Type 0 where
  column : (i : ℕ) → i < 32 → IsExpr (expr.Col i) (Sign Dollar ∷ Number i ∷ [])
  number : (i : ℕ) → i < 9223372036854775808 → IsExpr (expr.Literal (value.Int (pos i)))
      (Number i ∷ [])
  negative : (i : ℕ) → i ≤ 9223372036854775808 → IsExpr (expr.Literal (value.Int (pos 0 -ℤ pos i)))
      (Sign Minus ∷ Number i ∷ [])
  text : (t : List ℕ) → IsExpr (expr.Literal (value.Text t)) (Text t ∷ [])
  truth : IsExpr (expr.Literal (value.Flag true)) (Keyword keyword.True ∷ [])
  falsehood : IsExpr (expr.Literal (value.Flag false)) (Keyword keyword.False ∷ [])
  negated : (e : Expr) (es : List TokenKind) → IsExpr e es → IsExpr (expr.Not e)
      (Keyword keyword.Not ∷ es)
  pair : (k : TokenKind) (op : Op) (d e : Expr) (ds es : List TokenKind) → op_of k ≡ Some op
      → IsExpr d ds → IsExpr e es
      → IsExpr (expr.Binary op d e) (Sign Open ∷ (ds ++ (k ∷ (es ++ (Sign Close ∷ [])))))

-- ---- lists

-- one entry or more, with a comma before each further one
pub data AreEntries {A : Type 0} (IsEntry : A → List TokenKind → Type 0) : List A → List TokenKind
    → Type 0 where
  last : (x : A) (ks : List TokenKind) → IsEntry x ks → AreEntries IsEntry (x ∷ []) ks
  more : (x : A) (xs : List A) (ks ls : List TokenKind) → IsEntry x ks → AreEntries IsEntry xs ls
      → AreEntries IsEntry (x ∷ xs) (ks ++ (Sign Comma ∷ ls))

-- a list in brackets that isn't empty
pub data IsFilled {A : Type 0} (IsEntry : A → List TokenKind → Type 0) : List A → List TokenKind
    → Type 0 where
  entries : (xs : List A) (ks : List TokenKind) → AreEntries IsEntry xs ks
      → IsFilled IsEntry xs (Sign OpenList ∷ (ks ++ (Sign CloseList ∷ [])))

-- a list in brackets
pub data IsList {A : Type 0} (IsEntry : A → List TokenKind → Type 0) : List A → List TokenKind
    → Type 0 where
  empty : IsList IsEntry [] (Sign OpenList ∷ Sign CloseList ∷ [])
  filled : (xs : List A) (ks : List TokenKind) → IsFilled IsEntry xs ks → IsList IsEntry xs ks

-- an entry of `cols`
pub data IsColumnPlace : ℕ → List TokenKind → Type 0 where
  column : (i : ℕ) → i < 32 → IsColumnPlace i (Number i ∷ [])

-- `pair`
pub data IsPair : Pair → List TokenKind → Type 0 where
  pair : (i j : ℕ) → i < 32 → j < 32 → IsPair (record { left = i; right = j })
      (Number i ∷ Sign Equal ∷ Number j ∷ [])

-- `agg`
pub data IsAgg : Agg → List TokenKind → Type 0 where
  count : IsAgg agg.Count (Keyword keyword.Count ∷ [])
  sum : (i : ℕ) → i < 32 → IsAgg (agg.Sum i) (Keyword keyword.Sum ∷ Number i ∷ [])
  least : (i : ℕ) → i < 32 → IsAgg (agg.Min i) (Keyword keyword.Min ∷ Number i ∷ [])
  greatest : (i : ℕ) → i < 32 → IsAgg (agg.Max i) (Keyword keyword.Max ∷ Number i ∷ [])
  average : (i : ℕ) → i < 32 → IsAgg (agg.Avg i) (Keyword keyword.Avg ∷ Number i ∷ [])

-- ---- `plan`

-- the number of the first declared source with this name
abbrev pub source_named : List (List ℕ) → List ℕ → Option ℕ
source_named names word = position (bytes_eq word) names

-- one of the names is one that texts have
pub record HasSourceName (names : List (List ℕ)) : Type 0 where
  pub name : List ℕ
  pub place : ℕ
  pub named : IsSourceName name
  pub is : source_named names name ≡ Some place

-- a plan over declared sources with these names
pub data IsPlan (names : List (List ℕ)) : Plan → List TokenKind → Type 0 where
  source : (word : List ℕ) (i : ℕ) → source_named names word ≡ Some i
      → IsPlan names (plan.Source i) (Name word ∷ [])
  filter : (c : Expr) (a : Plan) (cs ks : List TokenKind) → IsExpr c cs → IsPlan names a ks
      → IsPlan names (plan.Filter c a) (Keyword keyword.Filter ∷ Sign Open ∷
      (cs ++ (Sign Comma ∷ (ks ++ (Sign Close ∷ [])))))
  mapped : (es : List Expr) (a : Plan) (ls ks : List TokenKind) → IsFilled IsExpr es ls
      → IsPlan names a ks
      → IsPlan names (plan.Map es a) (Keyword keyword.Map ∷ Sign Open ∷
      (ls ++ (Sign Comma ∷ (ks ++ (Sign Close ∷ [])))))
  union : (a b : Plan) (ks ls : List TokenKind) → IsPlan names a ks → IsPlan names b ls
      → IsPlan names (plan.Union a b) (Keyword keyword.Union ∷ Sign Open ∷
      (ks ++ (Sign Comma ∷ (ls ++ (Sign Close ∷ [])))))
  join : (pairs : List Pair) (c : Expr) (a b : Plan) (ps cs ks ls : List TokenKind)
      → IsList IsPair pairs ps → IsExpr c cs
      → IsPlan names a ks → IsPlan names b ls
      → IsPlan names (plan.Join pairs c a b)
      (Keyword keyword.Join ∷ Sign Open ∷
      (ps ++ (Sign Comma ∷ (cs ++ (Sign Comma ∷
      (ks ++ (Sign Comma ∷ (ls ++ (Sign Close ∷ [])))))))))
  distinct : (a : Plan) (ks : List TokenKind) → IsPlan names a ks
      → IsPlan names (plan.Distinct a) (Keyword keyword.Distinct ∷ Sign Open ∷
      (ks ++ (Sign Close ∷ [])))
  group : (columns : List ℕ) (aggs : List Agg) (a : Plan) (cs gs ks : List TokenKind)
      → IsList IsColumnPlace columns cs → IsList IsAgg aggs gs
      → IsPlan names a ks
      → IsPlan names (plan.Group columns aggs a)
      (Keyword keyword.Group ∷ Sign Open ∷
      (cs ++ (Sign Comma ∷ (gs ++ (Sign Comma ∷ (ks ++ (Sign Close ∷ [])))))))
  minus : (a b : Plan) (ks ls : List TokenKind) → IsPlan names a ks → IsPlan names b ls
      → IsPlan names (plan.Minus a b) (Keyword keyword.Minus ∷ Sign Open ∷
      (ks ++ (Sign Comma ∷ (ls ++ (Sign Close ∷ [])))))
