-- The tokens between the two sides of an expression.
use Rattle.std.specs.Prelude.{Option, Some, None}
use Rattle.pipes_token.specs.declared.token.Sign.{Sign as ASign}
use Rattle.pipes_token.specs.declared.token.Sign.TheVariants.{Plus, Minus, Star, Equal, Less}
use Rattle.pipes_token.specs.declared.token.Sign.TheVariants.{AtMost}
use Rattle.pipes_token.specs.declared.keyword.Keyword.{Keyword as AKeyword}
use Rattle.pipes_token.specs.declared.keyword.Keyword.TheVariants as keyword
use Rattle.pipes_token.specs.declared.token.TokenKind.{TokenKind}
use Rattle.pipes_token.specs.declared.token.TokenKind.TheVariants.{Sign, Keyword}
use Rattle.pipes_expr.specs.declared.op.Op.{Op}
use Rattle.pipes_expr.specs.declared.op.Op.TheVariants.{Add, Sub, Mul, Eq, Lt, Le, And, Or}

abbrev pub op_of_sign : ASign → Option Op
op_of_sign Plus = Some Add
op_of_sign Minus = Some Sub
op_of_sign Star = Some Mul
op_of_sign Equal = Some Eq
op_of_sign Less = Some Lt
op_of_sign AtMost = Some Le
op_of_sign _ = None

abbrev pub op_of_keyword : AKeyword → Option Op
op_of_keyword keyword.And = Some And
op_of_keyword keyword.Or = Some Or
op_of_keyword _ = None

-- the operator that a token is
abbrev pub op_of : TokenKind → Option Op
op_of (Sign s) = op_of_sign s
op_of (Keyword k) = op_of_keyword k
op_of _ = None
