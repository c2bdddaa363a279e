-- The one text in which a derivation is printed: a line for each step, and one for the plan.
use Rattle.std.specs.Prelude.{ℕ, Bool, true, false, List, [], ◌∷◌, ◌++◌, codes}
use Rattle.std.specs.Fmt.{decimal}
use Rattle.std.specs.List.{flat_map}
use Rattle.pipes_print.specs.ExprText.{expr_text, list_text}
use Rattle.pipes_print.specs.PlanText.{plan_text}
use Rattle.pipes_query.specs.declared.query.Query.{Query}
use Rattle.pipes_query.specs.Queries.{names_of}
use Rattle.pipes_rules.specs.declared.step.Arg.{Arg}
use Rattle.pipes_rules.specs.declared.step.Arg.TheVariants.{Nothing, OneExpr, TwoLists}
use Rattle.pipes_rules.specs.declared.step.Step.{Step}
use Rattle.pipes_rules.specs.Table.{rule_name}
use Rattle.pipes_derivation.specs.declared.derivation.Derivation.{Derivation}
use Rattle.pipes_derivation.specs.Texts.{IsTextOfDerivation}

abbrev pub direction_text : Bool → List ℕ
direction_text true = codes " back at "
direction_text false = codes " at "

-- the children's numbers, with a point before each but the first
abbrev pub path_text : List ℕ → List ℕ
path_text [] = codes "top"
path_text (n ∷ path) = decimal n ++ flat_map (λ m. codes "." ++ decimal m) path

abbrev pub arg_text : Arg → List ℕ
arg_text Nothing = []
arg_text (OneExpr e) = codes " with " ++ expr_text e
arg_text (TwoLists es fs) = codes " with "
    ++ (list_text expr_text es ++ (codes " " ++ list_text expr_text fs))

abbrev pub step_line : Step → List ℕ
step_line s = codes "step " ++ (rule_name s.rule ++ (direction_text s.back
    ++ (path_text s.path ++ (arg_text s.arg ++ codes "\n"))))

abbrev pub derivation_text : List (List ℕ) → Derivation → List ℕ
derivation_text names d = flat_map step_line d.steps
    ++ (codes "plan " ++ (plan_text names d.plan ++ codes "\n"))

-- some text has this value, whatever its length
abbrev pub HasDerivationText : Query → Derivation → Type 0
HasDerivationText q d = (bytes : List ℕ) × IsTextOfDerivation q d bytes
