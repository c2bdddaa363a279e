-- Values of one token in a derivation.
use Rattle.std.specs.Prelude.{ℕ, Bool, true, false, Option, Some, None}
use Rattle.pipes_token.specs.declared.refusal.TextWhy.TheVariants as why
use Rattle.pipes_token.specs.declared.refusal.Refusal.{Refusal}
use Rattle.pipes_token.specs.declared.token.Sign.TheVariants.{Point, OpenList}
use Rattle.pipes_token.specs.declared.keyword.Keyword.TheVariants as keyword
use Rattle.pipes_token.specs.declared.token.TokenKind.{TokenKind}
use Rattle.pipes_token.specs.declared.token.TokenKind.TheVariants.{Sign, Keyword, Name}
use Rattle.pipes_reader.specs.Reading.{refusal, refused_by}
use Rattle.pipes_rules.specs.declared.table.Rule.{Rule}
use Rattle.pipes_rules.specs.Names.{rule_named}

-- ---- a rule, by its name

abbrev pub rule_of : TokenKind → Option Rule
rule_of (Name word) = rule_named word
rule_of _ = None

-- a word that names no rule, a keyword too
abbrev pub rule_refused : TokenKind → ℕ → Refusal
rule_refused (Name word) at = refusal at why.Name
rule_refused (Keyword k) at = refusal at why.Name
rule_refused k at = refused_by k at

-- ---- tokens that say where in a step one is

abbrev pub back_mark : TokenKind → Option (Unit {0})
back_mark (Keyword keyword.Back) = Some tt
back_mark _ = None

abbrev pub at_mark : TokenKind → Option (Unit {0})
at_mark (Keyword keyword.At) = Some tt
at_mark _ = None

abbrev pub top_mark : TokenKind → Option (Unit {0})
top_mark (Keyword keyword.Top) = Some tt
top_mark _ = None

abbrev pub is_top : TokenKind → Bool
is_top (Keyword keyword.Top) = true
is_top _ = false

abbrev pub point_mark : TokenKind → Option (Unit {0})
point_mark (Sign Point) = Some tt
point_mark _ = None

abbrev pub with_mark : TokenKind → Option (Unit {0})
with_mark (Keyword keyword.With) = Some tt
with_mark _ = None

abbrev pub is_list_mark : TokenKind → Bool
is_list_mark (Sign OpenList) = true
is_list_mark _ = false

-- ---- what follows some steps

-- another step, or the plan
abbrev pub step_or_plan : TokenKind → Option Bool
step_or_plan (Keyword keyword.Step) = Some true
step_or_plan (Keyword keyword.Plan) = Some false
step_or_plan _ = None

abbrev pub plan_mark : TokenKind → Option (Unit {0})
plan_mark (Keyword keyword.Plan) = Some tt
plan_mark _ = None

-- after the last step that a derivation may have, another is one too many
abbrev pub step_mark : TokenKind → Option (Unit {0})
step_mark (Keyword keyword.Step) = Some tt
step_mark _ = None

abbrev pub step_refused : TokenKind → ℕ → Refusal
step_refused k at = refusal at why.Many
