-- The derivations that some text has, by their structure.
use Rattle.std.specs.Prelude.{◌≤◌, ℕ, length}
use Rattle.pipes_print.specs.Writable.{Each, IsWritableExpr, AreWritableExprs, IsWritablePlan}
use Rattle.pipes_rules.specs.declared.step.Arg.{Arg}
use Rattle.pipes_rules.specs.declared.step.Arg.TheVariants.{Nothing, OneExpr, TwoLists}
use Rattle.pipes_rules.specs.declared.step.Step.{Step}
use Rattle.pipes_derivation.specs.declared.derivation.Derivation.{Derivation}

-- one of at most two children
abbrev pub IsChild : ℕ → Type 0
IsChild n = n ≤ 1

abbrev pub IsWritableArg : Arg → Type 0
IsWritableArg Nothing = Unit {0}
IsWritableArg (OneExpr e) = IsWritableExpr e
IsWritableArg (TwoLists es fs) = AreWritableExprs es × AreWritableExprs fs

pub record IsWritableStep (s : Step) : Type 0 where
  pub path : length s.path ≤ 32
  pub children : Each IsChild s.path
  pub arg : IsWritableArg s.arg

-- at most 256 such steps, and a plan over so many sources
pub record IsWritableDerivation (sources : ℕ) (d : Derivation) : Type 0 where
  pub steps : length d.steps ≤ 256
  pub each : Each IsWritableStep d.steps
  pub plan : IsWritablePlan sources d.plan
