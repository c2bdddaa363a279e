-- The first place at which a text can't go on.
use Rattle.std.specs.Prelude.{◌≡◌, ℕ, List, [], ◌∷◌, ◌++◌, Err, ◌⊎◌}
use Rattle.pipes_token.specs.declared.refusal.Refusal.{Refusal}
use Rattle.pipes_token.specs.declared.refusal.TextWhy.TheVariants as why
use Rattle.pipes_token.specs.declared.token.TokenKind.{TokenKind}
use Rattle.pipes_token.specs.declared.token.TokenKind.TheVariants.{Cut}
use Rattle.pipes_token.specs.declared.token.Token.{Token}
use Rattle.pipes_expr.specs.declared.expr.Expr.{Expr}
use Rattle.pipes_plan.specs.declared.plan.Plan.{Plan}
use Rattle.pipes_reader.specs.declared.fault.ParseFault.{ParseFault}
use Rattle.pipes_reader.specs.declared.fault.ParseFault.TheVariants.{Refused, Memory}
use Rattle.pipes_reader.specs.Sentences.{Begins}
use Rattle.pipes_reader.specs.Places.{FirstPlace}
use Rattle.pipes_grammar.specs.Grammar.{IsExpr, IsFilled, IsPlan}
use Rattle.pipes_grammar.specs.Limits.{IsExprText, AreExprsText, IsPlanText}
use Rattle.pipes_reader.specs.Reading.{Reads, kinds_of, refusal, place_of, run_out}

-- all tokens begin a sentence, and none is left: they are no text's, since they lack its last token
pub record RunsOut {A : Type 0} (Is : A → List TokenKind → Type 0) (ts : List Token)
    (r : Refusal) : Type 0 where
  pub is_end : r ≡ run_out
  pub begins : Begins Is (kinds_of ts)

-- these tokens begin a sentence, but none that is within the limits; the place is the first of
-- them, or t where there is none
pub record IsTooDeep {A : Type 0} (Is Within : A → List TokenKind → Type 0) (ts : List Token)
    (t : Token) (r : Refusal) : Type 0 where
  pub is_deep : r ≡ refusal (place_of (ts ++ (t ∷ []))) why.Deep
  pub begins : Begins Is (kinds_of ts)
  pub none : ¬ (Begins Within (kinds_of ts))

-- where a refused expression's place is: at the refused token, inside a string that begins there,
-- or at the expression's first token
pub data IsExprPlace (before : List Token) (t : Token) (r : Refusal) : Type 0 where
  there : r.at ≡ t.at → IsExprPlace before t r
  inside : t.kind ≡ Cut r → IsExprPlace before t r
  deep : IsTooDeep IsExpr IsExprText before t r → IsExprPlace before t r

-- where a refused list's place is: the same, of an expression in it or of the list's own tokens
pub data IsExprsPlace (before : List Token) (t : Token) (r : Refusal) : Type 0 where
  in_entry : (outside inside : List Token) → before ≡ outside ++ inside → IsExprPlace inside t r
      → IsExprsPlace before t r

-- where a refused plan's place is: the same, the expression being one in the plan, or at the plan's
-- first token
pub data IsPlanPlace (names : List (List ℕ)) (before : List Token) (t : Token) (r : Refusal) : Type
    0 where
  in_expr : (outside inside : List Token) → before ≡ outside ++ inside → IsExprPlace inside t r
      → IsPlanPlace names before t r
  deep : IsTooDeep (IsPlan names) (IsPlanText names) before t r → IsPlanPlace names before t r

-- ---- what a reader's refusal says

abbrev pub ExprRefused : Reads Expr → List Token → ParseFault → Type 0
ExprRefused read ts (Refused r) = RunsOut IsExpr ts r ⊎ FirstPlace IsExpr IsExprText IsExprPlace
    read ts r
ExprRefused read ts Memory = Unit {0}

abbrev pub ExprsRefused : Reads (List Expr) → List Token → ParseFault → Type 0
ExprsRefused read ts (Refused r) =
    RunsOut (IsFilled IsExpr) ts r
    ⊎ FirstPlace (IsFilled IsExpr) AreExprsText IsExprsPlace read ts r
ExprsRefused read ts Memory = Unit {0}

abbrev pub PlanRefused : List (List ℕ) → Reads Plan → List Token → ParseFault → Type 0
PlanRefused names read ts (Refused r) = RunsOut (IsPlan names) ts r
    ⊎ FirstPlace (IsPlan names) (IsPlanText names) (IsPlanPlace names) read ts r
PlanRefused names read ts Memory = Unit {0}
