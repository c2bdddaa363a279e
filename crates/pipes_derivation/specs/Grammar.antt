-- The grammar of derivations, rule by rule: which kinds of tokens are a sentence, and which value
-- it
-- has. The limits of lists and depth are apart, in Limits.
use Rattle.std.specs.Prelude.{◌≡◌, ◌≤◌, ℕ, Bool, true, false, List, [], ◌∷◌, ◌++◌, Some}
use Rattle.pipes_token.specs.declared.token.Sign.TheVariants.{Point}
use Rattle.pipes_token.specs.declared.keyword.Keyword.TheVariants as keyword
use Rattle.pipes_token.specs.declared.token.TokenKind.{TokenKind}
use Rattle.pipes_token.specs.declared.token.TokenKind.TheVariants.{Sign, Keyword, Name, Number}
use Rattle.pipes_expr.specs.declared.expr.Expr.{Expr}
use Rattle.pipes_grammar.specs.Grammar.{IsExpr, IsFilled, IsPlan}
use Rattle.pipes_rules.specs.declared.step.Arg.{Arg}
use Rattle.pipes_rules.specs.declared.step.Arg.TheVariants.{Nothing, OneExpr, TwoLists}
use Rattle.pipes_rules.specs.declared.step.Step.{Step}
use Rattle.pipes_rules.specs.Names.{rule_named}
use Rattle.pipes_derivation.specs.declared.derivation.Derivation.{Derivation}

-- ---- a step's direction

pub data IsDirection : Bool → List TokenKind → Type 0 where
  forward : IsDirection false []
  back : IsDirection true (Keyword keyword.Back ∷ [])

-- ---- `path`

-- one child's number or more, with a point before each further one
pub data AreChildren : List ℕ → List TokenKind → Type 0 where
  last : (n : ℕ) → n ≤ 1 → AreChildren (n ∷ []) (Number n ∷ [])
  more : (n : ℕ) (path : List ℕ) (ks : List TokenKind) → n ≤ 1 → AreChildren path ks
      → AreChildren (n ∷ path) (Number n ∷ Sign Point ∷ ks)

pub data IsPath : List ℕ → List TokenKind → Type 0 where
  top : IsPath [] (Keyword keyword.Top ∷ [])
  children : (path : List ℕ) (ks : List TokenKind) → AreChildren path ks → IsPath path ks

-- ---- `arg`

-- one expression, or two lists of them
pub data IsGiven : Arg → List TokenKind → Type 0 where
  expr : (e : Expr) (ks : List TokenKind) → IsExpr e ks → IsGiven (OneExpr e) ks
  lists : (es fs : List Expr) (ks ls : List TokenKind) → IsFilled IsExpr es ks
      → IsFilled IsExpr fs ls → IsGiven (TwoLists es fs) (ks ++ ls)

pub data IsArg : Arg → List TokenKind → Type 0 where
  nothing : IsArg Nothing []
  given : (a : Arg) (ks : List TokenKind) → IsGiven a ks → IsArg a (Keyword keyword.With ∷ ks)

-- ---- `step`

pub data IsStep : Step → List TokenKind → Type 0 where
  step : (s : Step) (word : List ℕ) (ds ps gs : List TokenKind) → rule_named word ≡ Some s.rule
      → IsDirection s.back ds → IsPath s.path ps → IsArg s.arg gs
      → IsStep s (Keyword keyword.Step ∷ Name word ∷ (ds ++ (Keyword keyword.At ∷ (ps ++ gs))))

pub data AreSteps : List Step → List TokenKind → Type 0 where
  none : AreSteps [] []
  next : (s : Step) (ss : List Step) (ks ls : List TokenKind) → IsStep s ks → AreSteps ss ls
      → AreSteps (s ∷ ss) (ks ++ ls)

-- ---- `derivation`, over declared sources with these names

pub data IsDerivation (names : List (List ℕ)) : Derivation → List TokenKind → Type 0 where
  derivation : (d : Derivation) (ss ps : List TokenKind) → AreSteps d.steps ss
      → IsPlan names d.plan ps → IsDerivation names d (ss ++ (Keyword keyword.Plan ∷ ps))
