-- The limits of what is written in a derivation's text, as limits of its value.
use Rattle.std.specs.Prelude.{◌≤◌, ℕ, List, [], ◌∷◌, length}
use Rattle.pipes_token.specs.declared.token.TokenKind.{TokenKind}
use Rattle.pipes_expr.specs.ExprSize.{expr_depth}
use Rattle.pipes_plan.specs.Sizes.{plan_depth}
use Rattle.pipes_grammar.specs.Limits.{deepest, deepest_expr, longest_list}
use Rattle.pipes_rules.specs.declared.step.Arg.{Arg}
use Rattle.pipes_rules.specs.declared.step.Arg.TheVariants.{Nothing, OneExpr, TwoLists}
use Rattle.pipes_rules.specs.declared.step.Step.{Step}
use Rattle.pipes_derivation.specs.declared.derivation.Derivation.{Derivation}
use Rattle.pipes_derivation.specs.Grammar.{IsDerivation}

-- expressions of at most 32 levels, in lists of at most 32
abbrev pub IsArgWithin : Arg → Type 0
IsArgWithin Nothing = Unit {0}
IsArgWithin (OneExpr e) = expr_depth e ≤ 32
IsArgWithin (TwoLists es fs) = ((deepest es ≤ 32) × (length es ≤ 32))
    × ((deepest fs ≤ 32) × (length fs ≤ 32))

-- such an argument, and at most 32 numbers of children
abbrev pub IsStepWithin : Step → Type 0
IsStepWithin s = (length s.path ≤ 32) × IsArgWithin s.arg

abbrev pub AreStepsWithin : List Step → Type 0
AreStepsWithin [] = Unit {0}
AreStepsWithin (s ∷ ss) = IsStepWithin s × AreStepsWithin ss

-- a derivation within the limits: 256 such steps, 32 levels of the plan and of each expression in
-- it, 32 entries of a list
pub record IsDerivationWithin (names : List (List ℕ)) (d : Derivation) (ks : List TokenKind)
    : Type 0 where
  pub spells : IsDerivation names d ks
  pub steps : length d.steps ≤ 256
  pub each : AreStepsWithin d.steps
  pub depth : plan_depth d.plan ≤ 32
  pub exprs : deepest_expr d.plan ≤ 32
  pub lists : longest_list d.plan ≤ 32
