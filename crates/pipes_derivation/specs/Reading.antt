-- How a derivation is read: its value, or its first refusal.
use Rattle.std.specs.Prelude.{ℕ, Bool, true, false, List, [], ◌∷◌, ◌++◌, Err}
use Rattle.pipes_token.specs.declared.token.TokenKind.{TokenKind}
use Rattle.pipes_reader.specs.Reading.{Reads, run_out, refused_by, too_many, take_by, done_with}
use Rattle.pipes_reader.specs.Reading.{in_turn, with_tail, unless, many_within}
use Rattle.pipes_reader.specs.Taking.{take_number}
use Rattle.pipes_grammar.specs.ExprReading.{parse_expr}
use Rattle.pipes_grammar.specs.ListReading.{parse_exprs}
use Rattle.pipes_grammar.specs.PlanReading.{parse_plan}
use Rattle.pipes_rules.specs.declared.table.Rule.{Rule}
use Rattle.pipes_rules.specs.declared.step.Arg.{Arg}
use Rattle.pipes_rules.specs.declared.step.Arg.TheVariants.{Nothing, OneExpr, TwoLists}
use Rattle.pipes_rules.specs.declared.step.Step.{Step}
use Rattle.pipes_derivation.specs.declared.derivation.Derivation.{Derivation}
use Rattle.pipes_derivation.specs.Taking.{rule_of, rule_refused, back_mark, at_mark, top_mark}
use Rattle.pipes_derivation.specs.Taking.{is_top, point_mark, with_mark, is_list_mark}
use Rattle.pipes_derivation.specs.Taking.{step_or_plan, plan_mark, step_mark, step_refused}

-- ---- one reader or another, as the first token decides

abbrev pub either_by : {A : Type 0} → Bool → Reads A → Reads A → Reads A
either_by true one other = one
either_by false one other = other

unfoldable pub either : {A : Type 0} → (TokenKind → Bool) → Reads A → Reads A → Reads A
either begins one other [] = Err run_out
either begins one other (t ∷ ts) = either_by (begins t.kind) one other (t ∷ ts)

-- ---- a step's rule and direction

unfoldable pub take_rule : Reads Rule
take_rule ts = take_by rule_of rule_refused ts

unfoldable pub read_direction : Reads Bool
read_direction = with_tail back_mark (λ word. done_with true) false

unfoldable pub read_at_word : Reads (Unit {0})
read_at_word ts = take_by at_mark refused_by ts

unfoldable pub read_rule_use : Reads (Rule × Bool)
read_rule_use =
    in_turn take_rule (λ rule. in_turn read_direction (λ back. in_turn read_at_word
    (λ word. done_with (rule, back))))

-- ---- its path

abbrev pub and_child : List ℕ → ℕ → List ℕ
and_child path n = path ++ (n ∷ [])

-- whether a point follows, and so another child
abbrev pub read_point : List ℕ → Reads (List ℕ × Bool)
read_point path = with_tail point_mark (λ sign. done_with (path, true)) (path, false)

unfoldable pub read_child : List ℕ → Reads (List ℕ × Bool)
read_child path = in_turn (take_number 0 1) (λ n. read_point (and_child path n))

-- a child that is one too many
abbrev pub child_too_many : List ℕ → Reads (List ℕ)
child_too_many path ts = Err (too_many ts)

unfoldable pub read_children : Reads (List ℕ)
read_children = many_within 32 read_child child_too_many []

unfoldable pub read_top_word : Reads (List ℕ)
read_top_word = in_turn (take_by top_mark refused_by) (λ word. done_with [])

unfoldable pub read_path : Reads (List ℕ)
read_path = either is_top read_top_word read_children

-- ---- its argument

unfoldable pub read_one_expr : Reads Arg
read_one_expr = in_turn parse_expr (λ e. done_with (OneExpr e))

unfoldable pub read_two_lists : Reads Arg
read_two_lists = in_turn parse_exprs (λ es. in_turn parse_exprs (λ fs. done_with (TwoLists es fs)))

unfoldable pub read_exprs_given : Reads Arg
read_exprs_given = either is_list_mark read_two_lists read_one_expr

unfoldable pub read_arg : Reads Arg
read_arg = with_tail with_mark (λ word. read_exprs_given) Nothing

-- ---- a step

-- its path and its argument
unfoldable pub read_step_end : Reads (List ℕ × Arg)
read_step_end = in_turn read_path (λ path. in_turn read_arg (λ arg. done_with (path, arg)))

abbrev pub step_made : Rule × Bool → List ℕ × Arg → Step
step_made head end = record { rule = head.0; back = head.1; path = end.0; arg = end.1 }

-- after `step`
unfoldable pub read_one_step : Reads Step
read_one_step = in_turn read_rule_use (λ head. in_turn read_step_end
    (λ end. done_with (step_made head end)))

-- ---- steps

unfoldable pub read_step_or_plan : Reads Bool
read_step_or_plan ts = take_by step_or_plan refused_by ts

-- another step, or the end of the steps
abbrev pub step_if : Bool → List Step → Reads (List Step × Bool)
step_if true steps = in_turn read_one_step (λ s. done_with (steps ++ (s ∷ []), true))
step_if false steps = done_with (steps, false)

unfoldable pub next_step : List Step → Reads (List Step × Bool)
next_step steps = in_turn read_step_or_plan (λ another. step_if another steps)

-- the end of the most steps that a derivation may have: no other step, and the plan
unfoldable pub read_no_step : Reads (Unit {0})
read_no_step = unless step_mark step_refused tt

unfoldable pub read_plan_word : Reads (Unit {0})
read_plan_word ts = take_by plan_mark refused_by ts

unfoldable pub end_steps : List Step → Reads (List Step)
end_steps steps = in_turn read_no_step (λ done. in_turn read_plan_word
    (λ word. done_with steps))

-- all steps, and `plan`
unfoldable pub read_steps : Reads (List Step)
read_steps = many_within 256 next_step end_steps []

-- ---- a derivation

abbrev pub derivation_of : List Step → List (List ℕ) → Reads Derivation
derivation_of steps names =
    in_turn (parse_plan names) (λ plan. done_with (record { steps = steps; plan = plan }))

unfoldable pub parse_derivation : List (List ℕ) → Reads Derivation
parse_derivation names = in_turn read_steps (λ steps. derivation_of steps names)
